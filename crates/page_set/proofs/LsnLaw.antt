-- The number in a page's LSN field tells how many records the page is the fold of.
use Rattle.std.proofs.Common.{◌≡◌, ℕ, suc, Bool, false, cond, List, [], ◌∷◌, length, refl, sym, ap, ◌∙◌, inl, inr, arith}
use Rattle.std.proofs.lemmas.Bool.{cases_Bool, lt-ltb, le-ltb}
use Rattle.seg_base.specs.declared.shape.Shape.{Shape}
use Rattle.redo_record.specs.declared.record.Record.{Record}
use Rattle.redo_model.specs.Lists.{prefix}
use Rattle.page_set.specs.declared.page.Page.{Page}
use Rattle.page_set.specs.declared.page.Page.TheVariants.{Zero, Checkpoint, Txns, Catalogue, Space, Undo, First, Second, Third, Header, Rows}
use Rattle.page_set.specs.Among.{is_among}
use Rattle.page_set.specs.Pages.{lsn_of}
use Rattle.page_set.specs.Started.{start}
use Rattle.page_set.specs.Changes.{page_after, changed_page}
use Rattle.page_set.specs.Folded.{touched, page_of}
use Rattle.page_set.specs.Says.{Says, LsnTells}
use Rattle.page_set.proofs.SaysLaw.{says, changed_says}

prefix_none : (R : List Record) → prefix R 0 ≡ []
prefix_none [] = refl
prefix_none (r ∷ R) = ap (λ (b : Bool). cond b (r ∷ R) (prefix R 0)) (le-ltb (length R) 0 (omega arith)) ∙ prefix_none R

prefix_whole : (r : Record) (R : List Record) → prefix (r ∷ R) (suc (length R)) ≡ r ∷ R
prefix_whole r R = ap (λ (b : Bool). cond b (r ∷ R) (prefix R (suc (length R)))) (lt-ltb (length R) (suc (length R)) (omega arith))

whole : (sh : Shape) (r : Record) (R : List Record) (d : ℕ) → LsnTells sh (r ∷ R) d (suc (length R))
whole sh r R d = record { most = omega arith; fold = ap (λ (Q : List Record). page_of sh Q d) (prefix_whole r R) }

none : (sh : Shape) (r : Record) (R : List Record) (d x : ℕ) → x ≡ d → page_of sh (r ∷ R) d ≡ Zero x → LsnTells sh (r ∷ R) d 0
none sh r R d x same is = record { most = omega arith; fold = ap (λ (Q : List Record). page_of sh Q d) (prefix_none (r ∷ R)) ∙ ap Zero (sym same) ∙ sym is }

after_tells : (sh : Shape) (r : Record) (R : List Record) (d : ℕ) (q : Page) → page_of sh (r ∷ R) d ≡ page_after r (suc (length R)) q → Says (r ∷ R) d (page_after r (suc (length R)) q)
    → LsnTells sh (r ∷ R) d (lsn_of (page_after r (suc (length R)) q))
after_tells sh r R d (Zero x) is h = none sh r R d x h is
after_tells sh r R d (Checkpoint p) is h = absurd h
after_tells sh r R d (Txns t) is h = whole sh r R d
after_tells sh r R d (Catalogue c) is h = whole sh r R d
after_tells sh r R d (Space s) is h = whole sh r R d
after_tells sh r R d (Undo u) is h = whole sh r R d
after_tells sh r R d (First m) is h = whole sh r R d
after_tells sh r R d (Second m) is h = whole sh r R d
after_tells sh r R d (Third m) is h = whole sh r R d
after_tells sh r R d (Header x) is h = whole sh r R d
after_tells sh r R d (Rows x) is h = whole sh r R d

later : (sh : Shape) (r : Record) (R : List Record) (d n : ℕ) → is_among (touched sh r) d ≡ false → LsnTells sh R d n → LsnTells sh (r ∷ R) d n
later sh r R d n other t = record {
  most = omega (arith, t.most);
  fold = ap (λ (b : Bool). page_of sh (cond b (r ∷ R) (prefix R n)) d) (le-ltb (length R) n t.most) ∙ t.fold
      ∙ sym (ap (λ (b : Bool). cond b (changed_page r (suc (length R)) (page_of sh R d)) (page_of sh R d)) other);
}

pub lsns_tell : (sh : Shape) (R : List Record) (d : ℕ) → LsnTells sh R d (lsn_of (page_of sh R d))
lsns_tell sh [] d = record { most = omega arith; fold = refl }
lsns_tell sh (r ∷ R) d = elim (cases_Bool (is_among (touched sh r) d)) [
  | inl y ↦ rw y (after_tells sh r R d (start r (suc (length R)) (page_of sh R d)) (rw y refl) (changed_says r R d (suc (length R)) (page_of sh R d) (says sh R d)))
  | inr n ↦ rw n (later sh r R d (lsn_of (page_of sh R d)) n (lsns_tell sh R d))
]
