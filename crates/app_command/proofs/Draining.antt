-- The items that are left are put, one by one.
use Rattle.std.proofs.Common.{◌≡◌, ◌∙◌, ℕ, List, [], ◌∷◌, ◌++◌, codes, Option, Result, Ok, Err, sym, ap, append_assoc, append-nil, length, arith}
use Rattle.std.specs.Fmt.{decimal}
use Rattle.app_text.specs.{declared.faults.Fault.Fault, Streams.IsBegun, Streams.LeavesRest, Streams.Puts, Items.items_text}
use Rattle.app_text.proofs.Writing.{begun-more, rest-then, begun-then}
use Rattle.app_command.specs.Left.{left_text}

-- of the line of these items, what stands before those that are left is put
pub record Drains (held kept items left : List ℕ) (old new : Option (List ℕ)) : Type 0 where
  pub text : List ℕ
  pub put : LeavesRest old new text kept
  pub same : text ++ items_text left ≡ held ++ (codes "left" ++ items_text items)

pub drains-more : (held mid kept items left : List ℕ) (x : ℕ) (old now new : Option (List ℕ)) → Drains held mid items (x ∷ left) old now → LeavesRest now new (mid ++ (32 ∷ decimal x)) kept → Drains held kept items left old new
drains-more held mid kept items left x old now new d put = record {
  text = d.text ++ (32 ∷ decimal x);
  put = rest-then old now new d.text mid (32 ∷ decimal x) kept d.put put;
  same = append_assoc d.text (32 ∷ decimal x) (items_text left) ∙ d.same;
}

pub drains-part : (held mid items left : List ℕ) (x : ℕ) (old now new : Option (List ℕ)) → Drains held mid items (x ∷ left) old now → IsBegun now new (mid ++ (32 ∷ decimal x)) → IsBegun old new (held ++ left_text items)
drains-part held mid items left x old now new d begun =
    let here : IsBegun old new ((d.text ++ (32 ∷ decimal x)) ++ items_text left) = begun-more old new (d.text ++ (32 ∷ decimal x)) (items_text left) (begun-then old now new d.text mid (32 ∷ decimal x) d.put begun) in
    let line : (d.text ++ (32 ∷ decimal x)) ++ items_text left ≡ held ++ (codes "left" ++ items_text items) = append_assoc d.text (32 ∷ decimal x) (items_text left) ∙ d.same in
    rw (← append_assoc held (codes "left" ++ items_text items) (10 ∷ [])) (begun-more old new (held ++ (codes "left" ++ items_text items)) (10 ∷ []) (rw line at here))

pub drains-all : (held mid kept items left : List ℕ) (old now new : Option (List ℕ)) (r : Result Unit Fault) → length left ≡ 0 → Drains held mid items left old now → Puts mid (10 ∷ []) kept now new r → Puts held (left_text items) kept old new r
drains-all held mid kept items (x ∷ left) old now new r none d put = absurd (omega arith)
drains-all held mid kept items [] old now new r none d put = by_end r put
  where
    all : d.text ≡ held ++ (codes "left" ++ items_text items)
    all = sym (append-nil d.text) ∙ d.same

    line : d.text ++ (10 ∷ []) ≡ held ++ left_text items
    line = ap (λ l. l ++ (10 ∷ [])) all ∙ append_assoc held (codes "left" ++ items_text items) (10 ∷ [])

    by_end : (r : Result Unit Fault) → Puts mid (10 ∷ []) kept now new r → Puts held (left_text items) kept old new r
    by_end (Ok u) put = rw (← line) (rest-then old now new d.text mid (10 ∷ []) kept d.put put)
    by_end (Err why) put = (put.0, rw (← line) (begun-then old now new d.text mid (10 ∷ []) d.put put.1))
