-- A search for a clean frame from the least recently used on.
use Rattle.std.proofs.Common.{◌≡◌, ℕ, ◌+◌, true, List, [], ◌∷◌, ◌++◌, Some, refl, arith, nat_eq, length, append_assoc, ◌∙◌, slice_get}
use Rattle.std.specs.List.{IsDistinct}
use Rattle.std.specs.Map.{lookup, keys_of}
use Rattle.std.specs.Cmp.{nat_eq_equiv}
use Rattle.std.proofs.lemmas.Map.Entries.{lookup_from_place}
use Rattle.std.proofs.lemmas.Grind.{common_steps}
use Rattle.lru.proofs.Pairs.{slice_get-cut}
use Rattle.buffer_pool.specs.declared.frame.Frame.{Frame}
use Rattle.buffer_pool.specs.Frames.{dirty_count}

-- of the entries all but the first ones were looked at, and are dirty
pub record Scanned (es front : List (ℕ × Frame)) : Type 0 where
  pub rest : List (ℕ × Frame)
  pub whole : es ≡ front ++ rest
  pub dirty : dirty_count rest ≡ length rest

pub dirty_count-append : (xs ys : List (ℕ × Frame)) → dirty_count (xs ++ ys) ≡ dirty_count xs + dirty_count ys
dirty_count-append [] ys = grind (arith, common_steps)
dirty_count-append (x ∷ xs) ys = grind (arith, common_steps, dirty_count-append xs ys)

pub scanned_none : (es : List (ℕ × Frame)) → Scanned es es
scanned_none es = record { rest = []; whole = grind (arith, common_steps); dirty = refl }

pub scanned_more : (es front new : List (ℕ × Frame)) (e : ℕ × Frame) → Scanned es front → front ≡ new ++ e ∷ [] → e.1.dirty ≡ true → Scanned es new
scanned_more es front new e s is d = record {
  rest = e ∷ s.rest;
  whole = s.whole ∙ (rw is (append_assoc new (e ∷ []) s.rest));
  dirty = grind (arith, common_steps, s.dirty, d);
}

pub scanned_all : (es front : List (ℕ × Frame)) → Scanned es front → front ≡ [] → dirty_count es ≡ length es
scanned_all es front s is = grind (arith, common_steps, s.whole, s.dirty)

pub scanned_place : (es front new : List (ℕ × Frame)) (e : ℕ × Frame) → Scanned es front → front ≡ new ++ e ∷ [] → IsDistinct nat_eq (keys_of es) → lookup (nat_eq e.0) es ≡ Some e.1
scanned_place es front new e s is apart =
    let whole : es ≡ new ++ (e ∷ s.rest) = s.whole ∙ (rw is (append_assoc new (e ∷ []) s.rest)) in
    let at : slice_get es (length new) ≡ Some e = rw whole (slice_get-cut new e s.rest) in
    lookup_from_place nat_eq_equiv es (length new) e.0 e.1 apart at
