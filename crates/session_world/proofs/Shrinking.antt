-- What the sessions in their seats shrink.
use Rattle.std.proofs.Common.{◌≡◌, ◌≢◌, ℕ, zero, suc, ◌+◌, ◌-◌, ◌<◌, Bool, true, false, cond, eqb, eqb-true, List, [], ◌∷◌, ◌++◌, length, slice_get, Option, Some, None, refl, sym, ◌∙◌, ap, subst, inl, inr, arith}
use Rattle.std.specs.Prelude.{slice_index_or}
use Rattle.seg_words.proofs.Lemmas.{cases_eq, eqb-false}
use Rattle.script_text.specs.declared.statement.Statement.{Statement}
use Rattle.scan_table.specs.Places.{place}
use Rattle.scan_table.specs.declared.scan.OpenScan.{OpenScan}
use Rattle.session_core.specs.declared.session.Doing.{Doing}
use Rattle.session_core.specs.declared.session.OpenShrink.{OpenShrink}
use Rattle.session_core.specs.Shrinkers.{shrinker_of}
use Rattle.session_step.specs.Stages.{IsShrinker, AreOpen}
use Rattle.session_step.specs.Turning.{shrunk_in}
use Rattle.session_step.proofs.Shrinkers.{shrinks_told, told_shrinks}
use Rattle.session_world.specs.declared.seats.Seat.{Seat}
use Rattle.session_world.specs.Seats.{told_at, told_in, seen_in, with_table, with_shrink, IsShrinkerIn, AreShrinks}

-- ---- one more in the list

-- the first one that is there
abbrev either : Option ℕ → Option ℕ → Option ℕ
either None q = q
either (Some v) q = Some v

either_cond : (b : Bool) (w : ℕ) (p q z : Option ℕ) → p ≡ either q z → cond b (Some w) p ≡ either (cond b (Some w) q) z
either_cond true w p q z h = refl
either_cond false w p q z h = h

shrinker_more : (ks : List OpenShrink) (k : OpenShrink) (o : ℕ) → shrinker_of (ks ++ k ∷ []) o ≡ either (shrinker_of ks o) (cond (eqb k.obj o) (Some k.who) None)
shrinker_more [] k o = refl
shrinker_more (j ∷ ks) k o = either_cond (eqb j.obj o) j.who (shrinker_of (ks ++ k ∷ []) o) (shrinker_of ks o) (cond (eqb k.obj o) (Some k.who) None) (shrinker_more ks k o)

-- ---- one more session

module _ (seats : List Seat) (who n : ℕ) where
  abbrev next : ℕ → Type 0
  next o = (suc n ≢ who) × (shrunk_in (told_at seats (suc n)).doing ≡ Some o)

  -- the next session shrinks no such table
  stays : (o : ℕ) (q : Option ℕ) → (next o → ⊥) → IsShrinkerIn seats who n o q → IsShrinkerIn seats who (suc n) o q
  stays o None nothing h = λ v from to ne e. elim (cases_eq v (suc n)) [
    | inl y ↦ nothing ((λ z. ne (y ∙ z)), subst (λ (u : ℕ). shrunk_in (told_at seats u).doing ≡ Some o) y e)
    | inr y ↦ h v from (omega (arith, to, y)) ne e
  ]
  stays o (Some v) nothing h = let to = h.1 in (h.0, omega (arith, to), h.2, h.3)

  -- or it does
  comes : (o : ℕ) (q : Option ℕ) → next o → IsShrinkerIn seats who n o q → IsShrinkerIn seats who (suc n) o (either q (Some (suc n)))
  comes o None y h = (omega arith, omega arith, y.0, y.1)
  comes o (Some v) y h = let to = h.1 in (h.0, omega (arith, to), h.2, h.3)

  -- it is session who, or shrinks nothing
  none_more : (ks : List OpenShrink) → ((o : ℕ) → next o → ⊥) → AreShrinks seats who n ks → AreShrinks seats who (suc n) ks
  none_more ks nothing h = record { tells = λ o. stays o (shrinker_of ks o) (nothing o) (h.tells o) }

  -- it shrinks table b
  one_more : (ks : List OpenShrink) (b : ℕ) → next b → AreShrinks seats who n ks → AreShrinks seats who (suc n) (ks ++ record { who = suc n; obj = b } ∷ [])
  one_more ks b y h = record { tells = λ o. subst (IsShrinkerIn seats who (suc n) o) (sym (shrinker_more ks k o)) (by_table o (eqb b o) refl) }
    where
      k : OpenShrink
      k = record { who = suc n; obj = b }

      other : (o : ℕ) → eqb b o ≡ false → next o → ⊥
      other o e z = eqb-false b o e (same b o (sym y.1 ∙ z.1))
        where
          same : (a c : ℕ) → ◌≡◌ {A = Option ℕ} (Some a) (Some c) → a ≡ c
          same a c e = cc e

      either_none : (q : Option ℕ) → q ≡ either q None
      either_none None = refl
      either_none (Some v) = refl

      by_table : (o : ℕ) (t : Bool) → eqb b o ≡ t → IsShrinkerIn seats who (suc n) o (either (shrinker_of ks o) (cond t (Some (suc n)) None))
      by_table o true e = comes o (shrinker_of ks o) (subst next (eqb-true b o e) y) (h.tells o)
      by_table o false e = subst (IsShrinkerIn seats who (suc n) o) (either_none (shrinker_of ks o)) (stays o (shrinker_of ks o) (other o e) (h.tells o))

  table_more : (a : Option ℕ) (ks : List OpenShrink) → suc n ≢ who → shrunk_in (told_at seats (suc n)).doing ≡ a → AreShrinks seats who n ks → AreShrinks seats who (suc n) (with_table (suc n) a ks)
  table_more None ks ne e h = none_more ks (λ o y. nothing o (sym e ∙ y.1)) h
    where
      nothing : (o : ℕ) → ◌≡◌ {A = Option ℕ} None (Some o) → ⊥
      nothing o e = absurd (cc e)
  table_more (Some b) ks ne e h = one_more ks b (ne, e) h

  shrink_more : (ks : List OpenShrink) (t : Bool) → eqb (suc n) who ≡ t → AreShrinks seats who n ks → AreShrinks seats who (suc n) (cond t ks (with_table (suc n) (shrunk_in (told_at seats (suc n)).doing) ks))
  shrink_more ks true e h = none_more ks (λ o y. y.0 (eqb-true (suc n) who e)) h
  shrink_more ks false e h = table_more (shrunk_in (told_at seats (suc n)).doing) ks (eqb-false (suc n) who e) refl h

-- ---- the loop over the seats

seat_there : (seats : List Seat) (n : ℕ) (d : Seat) → n < length seats → slice_get seats n ≡ Some (slice_index_or seats n d)
seat_there [] n d l = absurd (omega (arith, l))
seat_there (s ∷ ss) zero d l = refl
seat_there (s ∷ ss) (suc n) d l = seat_there ss n d (omega (arith, l))

-- session v, whose seat is the one at this place, was added
pub shrinks_more : (seats : List Seat) (who n v : ℕ) (d : Seat) (ks new : List OpenShrink) → v ≡ n + 1 → n < length seats → new ≡ with_shrink v who (slice_index_or seats n d).session.doing ks → AreShrinks seats who n ks → AreShrinks seats who (n + 1) new
shrinks_more seats who n v d ks new is within now h =
    subst (λ (m : ℕ). AreShrinks seats who m new) next_is
    (subst (AreShrinks seats who (suc n)) (sym (now ∙ ap (λ (w : ℕ). with_shrink w who (slice_index_or seats n d).session.doing ks) (is ∙ sym next_is) ∙ ap (λ (z : Doing). with_shrink (suc n) who z ks) (sym told)))
    (shrink_more seats who n ks (eqb (suc n) who) refl h))
  where
    next_is : suc n ≡ n + 1
    next_is = omega arith

    place_is : suc n - 1 ≡ n
    place_is = omega arith

    told : (told_at seats (suc n)).doing ≡ (slice_index_or seats n d).session.doing
    told = ap (λ (m : ℕ). (told_in (slice_get seats m)).doing) place_is ∙ ap (λ (z : Option Seat). (told_in z).doing) (seat_there seats n d within)

-- ---- to the sessions of a run

pub open_now : (scripts : List (List Statement)) (seats : List Seat) (scans : List (Option OpenScan)) (who : ℕ) (ks : List OpenShrink) → length seats ≡ length scripts → AreShrinks seats who (length seats) ks → AreOpen scripts (seen_in seats scans) who ks
open_now scripts seats scans who ks count h o = by (shrinker_of ks o) (h.tells o)
  where
    by : (q : Option ℕ) → IsShrinkerIn seats who (length seats) o q → IsShrinker scripts (seen_in seats scans) who o q
    by None nothing = λ v session ne s. nothing v session.from (let to = session.to in omega (arith, count, to)) ne (shrinks_told (place v scans) (told_at seats v).doing o s)
    by (Some v) y = (record { from = y.0; to = (let to = y.1 in omega (arith, count, to)) }, y.2, told_shrinks (place v scans) (told_at seats v).doing o y.3)
