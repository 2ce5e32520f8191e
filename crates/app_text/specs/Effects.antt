-- What is printed of effects.
use Rattle.std.specs.Prelude.{ℕ, List, codes}
use Rattle.machine_memory.specs.declared.types.EffectKind.{EffectKind, EffectKind as effect}

abbrev pub effect_text : EffectKind → List ℕ
effect_text effect.Append = codes "append"
effect_text effect.Take = codes "take"
effect_text effect.Replace = codes "replace"
effect_text effect.Front = codes "front"
effect_text effect.Arrive = codes "arrive"
effect_text effect.Close = codes "close"
effect_text effect.SelfClose = codes "self_close"
