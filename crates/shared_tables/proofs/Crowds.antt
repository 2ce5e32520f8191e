-- The steps that count parties, part them and bring them together keep the rule of the table.
use Rattle.std.proofs.Common.{◌≡◌, ◌≢◌, ℕ, List, [], ◌∷◌, ◌++◌, set, refl, subst}
use Rattle.std.proofs.lemmas.List.{set-get_or}
use mathlib.Core.Option.{some}
use lib.ListN.{get_elem?}
use Rattle.atomic_table.specs.Table.{keeps, Allows, Splits, Joins}
use Rattle.shared_parties.specs.{declared.known.CallState.CallState, CallStates.Sharing, declared.count.Change.Change, Parting.Regroups, PartyCount.changed, PartyCount.MayAct}
use Rattle.shared_tables.{specs.Seats.Table, specs.Seats.Seated, specs.Seats.count_of, specs.Seats.OfView, specs.TableRule.TableOf, specs.TableRule.Rule, proofs.TableParties.table_keeps_parties}

module _ {T : Type 0} (K : TableOf T) where
  -- a step on the count
  pub recounts : (slots id : ℕ) (m : Seated T) (c : Change) (told : ℕ → CallState T → CallState T → Type 0) → MayAct c told id m.0 → Allows (Rule K) slots id m 0 (changed c) (λ n. OfView (told n) m)
  recounts slots id m c told does s r wide at fits =
      let l = table_keeps_parties T K s r in let d = does (count_of s) s.views l.0 at in
      (d.0, keeps, tt, l.1 (changed c (count_of s)) (set s.views id d.0) d.1, (d.2, refl))

  -- the seats change, and the count does not
  regrouped : (s : Table T) (r : Rule K s) (vs : List (CallState T)) → Regroups (table_keeps_parties T K s r).0 (count_of s) vs → Rule K record { words = s.words; homes = s.homes; views = vs }
  regrouped s r vs same = subst (λ (ns : List ℕ). Rule K record { words = ns; homes = s.homes; views = vs }) (set-get_or s.words 0 0) ((table_keeps_parties T K s r).1 (count_of s) vs same)

  -- a seat becomes two
  pub splits : (id : ℕ) (v left right : CallState T) → ((n : ℕ) (vs : List (CallState T)) (k : Sharing n vs) → get_elem? vs id ≡ some v → Regroups k n (set vs id left ++ right ∷ [])) → Splits (Rule K) id v left right
  splits id v left right does s r at = regrouped s r (set s.views id left ++ right ∷ []) (does (count_of s) s.views (table_keeps_parties T K s r).0 at)

  -- two seats become one
  pub joins : (id : ℕ) (v : CallState T) (other : ℕ) (w both spent : CallState T)
      → ((n : ℕ) (vs : List (CallState T)) (k : Sharing n vs) → get_elem? vs id ≡ some v → other ≢ id → get_elem? (set vs id both) other ≡ some w → Regroups k n (set (set vs id both) other spent)) → Joins (Rule K) id v other w both spent
  joins id v other w both spent does s r at two at' = regrouped s r (set (set s.views id both) other spent) (does (count_of s) s.views (table_keeps_parties T K s r).0 at two at')
