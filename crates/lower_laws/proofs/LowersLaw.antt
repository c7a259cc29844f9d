-- The drafted Lower is allowed, and no other.
use Rattle.std.proofs.Common.{◌≡◌, ℕ, ◌<◌, min, true, false, List, ◌∷◌, length, refl, sym, ◌∙◌, ap, subst, arith, inl, inr, eq-eqb, lt-ltb, ltb-true, ltb-false}
use Rattle.seg_words.proofs.Lemmas.{cond-true, cond-false, cases_Bool}
use Rattle.seg_words.specs.Types.{Shape}
use Rattle.redo_model.specs.Records.{Record, Lower, LowerRecord}
use Rattle.redo_model.specs.Model.{extents_of, Marks, high_mark, low_mark, IsTable, LowerAllowed, IsAllowed, IsLawful}
use Rattle.mark_laws.proofs.TablesThere.{whole_calls}
use Rattle.lower_laws.specs.Drafts.{kept_extents, releases, lower_to, drafted_lower, with_lower}
use Rattle.lower_laws.specs.Lowers.{LowersAreAllowed, LowersLeaveLawful}
use Rattle.lower_laws.proofs.BestsAfter.{bests_after}
use Rattle.lower_laws.proofs.KeptLaw.{kept_is_within}

pub lower_same : (f g : LowerRecord) → f.obj ≡ g.obj → f.header ≡ g.header → f.lowering ≡ g.lowering → f.kept ≡ g.kept → f.low ≡ g.low → f.high ≡ g.high → f.l2 ≡ g.l2 → f.l3 ≡ g.l3 → f.bests ≡ g.bests → f.released ≡ g.released → f ≡ g
lower_same f g a b c d e h i j k m =
    ap (λ x. record f { obj = x }) a
    ∙ ap (λ x. record f { obj = g.obj; header = x }) b
    ∙ ap (λ x. record f { obj = g.obj; header = g.header; lowering = x }) c
    ∙ ap (λ x. record f { obj = g.obj; header = g.header; lowering = g.lowering; kept = x }) d
    ∙ ap (λ x. record f { obj = g.obj; header = g.header; lowering = g.lowering; kept = g.kept; low = x }) e
    ∙ ap (λ x. record f { obj = g.obj; header = g.header; lowering = g.lowering; kept = g.kept; low = g.low; high = x }) h
    ∙ ap (λ x. record f { obj = g.obj; header = g.header; lowering = g.lowering; kept = g.kept; low = g.low; high = g.high; l2 = x }) i
    ∙ ap (λ x. record f { obj = g.obj; header = g.header; lowering = g.lowering; kept = g.kept; low = g.low; high = g.high; l2 = g.l2; l3 = x }) j
    ∙ ap (λ x. record f { obj = g.obj; header = g.header; lowering = g.lowering; kept = g.kept; low = g.low; high = g.high; l2 = g.l2; l3 = g.l3; bests = x }) k
    ∙ ap (λ x. record f { obj = g.obj; header = g.header; lowering = g.lowering; kept = g.kept; low = g.low; high = g.high; l2 = g.l2; l3 = g.l3; bests = g.bests; released = x }) m

drafted_allowed : (sh : Shape) (R : List Record) (o : ℕ) → IsTable R o → releases sh R o ≡ true → LowerAllowed sh R (drafted_lower sh R o)
drafted_allowed sh R o t y = record {
  table = t;
  header = refl;
  lowering = refl;
  longest = refl;
  not_none = ltb-true (kept_extents sh R o) (length (extents_of R o)) y;
  released = refl;
  high = refl;
  low = refl;
  l2 = refl;
  l3 = refl;
  bests = sym (bests_after sh R (drafted_lower sh R o));
}

only_lower : (sh : Shape) (R : List Record) (l : LowerRecord) → LowerAllowed sh R l → l ≡ drafted_lower sh R l.obj
only_lower sh R l a =
    lower_same l (lower_to sh R l.obj l.kept) refl a.header a.lowering refl
    (a.low ∙ ap (λ (n : ℕ). min (low_mark R l.obj) n) a.high)
    a.high a.l2 a.l3
    (a.bests ∙ bests_after sh R l)
    a.released
    ∙ ap (λ (n : ℕ). lower_to sh R l.obj n) a.longest

some_released : (sh : Shape) (R : List Record) (l : LowerRecord) → LowerAllowed sh R l → releases sh R l.obj ≡ true
some_released sh R l a = lt-ltb (kept_extents sh R l.obj) (length (extents_of R l.obj)) (subst (λ (n : ℕ). n < length (extents_of R l.obj)) a.longest a.not_none)

is_allowed : (sh : Shape) (R : List Record) (o : ℕ) → IsLawful sh R → IsTable R o → releases sh R o ≡ true → IsAllowed sh R (Lower (drafted_lower sh R o))
is_allowed sh R o h t y = record { called_for = whole_calls R _ h.whole; kind = drafted_allowed sh R o t y }

is_lawful : (sh : Shape) (R : List Record) (o : ℕ) → IsLawful sh R → IsTable R o → releases sh R o ≡ true → IsLawful sh (Lower (drafted_lower sh R o) ∷ R)
is_lawful sh R o h t y = record { allowed = (h.allowed, is_allowed sh R o h t y); whole = refl }

pub lowers_are_allowed : LowersAreAllowed
lowers_are_allowed sh R o h t = record {
  allowed = λ y. is_allowed sh R o h t y;
  lawful = λ y. is_lawful sh R o h t y;
  only = λ l e a. subst (λ (n : ℕ). l ≡ drafted_lower sh R n) e (only_lower sh R l a.kind);
  releases_some = λ l e a. subst (λ (n : ℕ). releases sh R n ≡ true) e (some_released sh R l a.kind);
  keeps_all = λ f. (let l = ltb-false (kept_extents sh R o) (length (extents_of R o)) f in let k = kept_is_within sh R o h t in omega (arith, l, k));
}

-- the list with it

pub with_some : (sh : Shape) (R : List Record) (o : ℕ) → releases sh R o ≡ true → with_lower sh R o ≡ Lower (drafted_lower sh R o) ∷ R
with_some sh R o y = cond-true _ _ _ y

pub with_none : (sh : Shape) (R : List Record) (o : ℕ) → releases sh R o ≡ false → with_lower sh R o ≡ R
with_none sh R o f = cond-false _ _ _ f

pub high_after : (R : List Record) (l : LowerRecord) → high_mark (Lower l ∷ R) l.obj ≡ l.high
high_after R l = ap (λ (m : Marks). m.high) (cond-true _ _ _ (eq-eqb l.obj l.obj refl))

pub lowers_leave_lawful : LowersLeaveLawful
lowers_leave_lawful sh R o h t = elim (cases_Bool (releases sh R o)) [
  | inl y ↦ record {
    lawful = subst (IsLawful sh) (sym (with_some sh R o y)) (is_lawful sh R o h t y);
    high = ap (λ (Q : List Record). high_mark Q o) (with_some sh R o y) ∙ high_after R (drafted_lower sh R o) ∙ sym (cond-true _ _ _ y);
  }
  | inr f ↦ record {
    lawful = subst (IsLawful sh) (sym (with_none sh R o f)) h;
    high = ap (λ (Q : List Record). high_mark Q o) (with_none sh R o f) ∙ sym (cond-false _ _ _ f);
  }
]
