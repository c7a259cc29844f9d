-- Whether a row block is vacant, by its page and by the list.
use Rattle.std.proofs.Common.{◌≡◌, ℕ, zero, suc, Bool, true, false, ◌&&◌, List, [], ◌∷◌, length, get_or, Option, Some, refl, sym, ◌∙◌, ap, subst}
use Rattle.seg_words.specs.Types.{Shape, Slot, Block, is_reusable, list_all, new_slot}
use Rattle.disk_model.specs.Crash.{Meaning}
use Rattle.redo_model.specs.Records.{Record}
use Rattle.redo_model.specs.Model.{IsRowBlock, AreAllowed, ended_in, is_vacant_block}
use Rattle.redo_laws.proofs.numbers.Bounds.{data_bound}
use Rattle.page_set.specs.Folded.{page_of}
use Rattle.page_fit.proofs.HeaderApart.{home_in}
use Rattle.store_laws.proofs.KindsLaw.{rows_stand}
use Rattle.store_core.specs.Store.{Held, has_page}
use Rattle.store_read.proofs.Truth.{page_when}
use Rattle.lowering.specs.declared.ground.Ground.{Ground}
use Rattle.lowering.specs.Asked.{are_reusable_below, vacant_in}
use Rattle.lowering.specs.Known.{Knows}

and_moves : (a b c : Bool) → (a && (b && c)) ≡ (b && (a && c))
and_moves true true c = refl
and_moves true false c = refl
and_moves false true c = refl
and_moves false false c = refl

below_first : (f : ℕ → Bool) (s : Slot) (ss : List Slot) (n : ℕ) → are_reusable_below f (s ∷ ss) (suc n) ≡ (is_reusable f s && are_reusable_below f ss n)
below_first f s ss zero = refl
below_first f s ss (suc n) =
    ap (λ (v : Bool). is_reusable f (get_or ss n new_slot) && v) (below_first f s ss n)
    ∙ and_moves (is_reusable f (get_or ss n new_slot)) (is_reusable f s) (are_reusable_below f ss n)

pub below_all : (f : ℕ → Bool) (ss : List Slot) → are_reusable_below f ss (length ss) ≡ list_all (is_reusable f) ss
below_all f [] = refl
below_all f (s ∷ ss) = below_first f s ss (length ss) ∙ ap (λ (v : Bool). is_reusable f s && v) (below_all f ss)

-- what the page answers

pub vacant_read : {D : Type 0} (meaning : Meaning D) (s : Held D) (R : List Record) (o b : ℕ) (g : Ground) → Knows meaning R o s g → IsRowBlock g.shape R o b → vacant_in g.table (page_of s.shape R b) ≡ Some (is_vacant_block R b)
vacant_read meaning s R o b g k x =
    let p = rows_stand s.shape R o b k.holds.list.within k.holds.lawful (subst (λ (sh : Shape). IsRowBlock sh R o b) k.shape x) in
    ap (vacant_in g.table) p.page
    ∙ ap (λ (f : ℕ → Bool). Some (list_all (is_reusable f) p.rows.block.slots)) k.ended
    ∙ ap (λ (y : Block). Some (list_all (is_reusable (ended_in R)) y.slots)) p.holds.block

test_inside : (a b : Bool) → ◌≡◌ {A = Option Bool} (Some a) (Some b) → a ≡ b
test_inside a b e = cc

pub vacant_told : {D : Type 0} (meaning : Meaning D) (s : Held D) (R : List Record) (o b : ℕ) (g : Ground) (y : Bool) → Knows meaning R o s g → IsRowBlock g.shape R o b → vacant_in g.table (page_of s.shape R b) ≡ Some y → y ≡ is_vacant_block R b
vacant_told meaning s R o b g y k x e = test_inside y _ (sym e ∙ vacant_read meaning s R o b g k x)

row_has : (sh : Shape) (R : List Record) (o b : ℕ) → AreAllowed sh R → IsRowBlock sh R o b → has_page sh b ≡ true
row_has sh R o b h x = (let bound = data_bound sh R o b h (home_in sh R o b x) in page_when sh b bound.0 bound.1)

pub vacant_has : {D : Type 0} (meaning : Meaning D) (s : Held D) (R : List Record) (o b : ℕ) (g : Ground) → Knows meaning R o s g → IsRowBlock g.shape R o b → has_page s.shape b ≡ true
vacant_has meaning s R o b g k x = row_has s.shape R o b k.holds.lawful.allowed (subst (λ (sh : Shape). IsRowBlock sh R o b) k.shape x)
