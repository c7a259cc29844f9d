-- Where a row that was located stands.
use Rattle.std.proofs.Common.{◌≡◌, ◌≢◌, ◌⊎◌, ℕ, ◌<◌, Bool, true, false, cond, ◌||◌, eqb, List, [], ◌∷◌, length, MatchOption, Option, Some, None, refl, sym, ◌∙◌, ap, ap₂, subst, arith, inl, inr, le_refl, true≢false, ne_eqb}
use Rattle.seg_words.proofs.Lemmas.{cases_Bool, eqb-false, or_parts}
use Rattle.seg_words.specs.Types.{Shape, Kind, Rowid, Slot, UndoAddr, Writer, By}
use Rattle.redo_model.specs.Records.{Record}
use Rattle.redo_model.specs.Model.{Step, Effect, commit_count, is_active, is_addr, standing, newest_on, image, Made, makers, first_counted, counts, image_at, Extends, IsFreeFor, number_or_zero, AreAllowed}
use Rattle.redo_model.specs.Lists.{same, more}
use Rattle.redo_laws.specs.Chain.{IsChain, EachMade}
use Rattle.redo_laws.specs.Stays.{Later, one_later, not_later, IsNotOf, IsQuiet}
use Rattle.redo_laws.proofs.links.ChainLaw.{slots_are_chains}
use Rattle.redo_laws.proofs.steps.OnTop.{addr_self, addr_same}
use Rattle.space_laws.proofs.IncarnationsLaw.{rising}
use Rattle.version_laws.specs.Types.{Falls}
use Rattle.version_laws.proofs.Falling.{makers_fall}
use Rattle.scan_laws.specs.Changes.{changed_above}
use Rattle.scan_laws.specs.Staying.{is_released_since, StaysSince}
use Rattle.scan_laws.proofs.StayingLaw.{row_blocks_stay_since, incarnations_tell_releases}
use Rattle.row_laws.proofs.PlaceLaw.{places_tell}
use Rattle.mark_laws.specs.Searches.{is_left_out}
use Rattle.mark_laws.proofs.SearchesLaw.{found_takes}
use Rattle.change_laws.specs.Types.{Stand, IsOwn, IsOtherThan, stand_of, stand_in, now_at, IsBornAt, WasFound, IsFreeNow, IsBusyNow}
use Rattle.change_laws.proofs.LookLaw.{open_of, places_show, released_are_changed}
use Rattle.place_laws.specs.Located.{IsHeadOf}
use Rattle.head_laws.specs.Heads.{stand_by, blocks_by, sought_by, LocatedPlacesStay, LocatedWereFound, FreeAreNewest, HeadsStay, TargetsAreOther, FoundAreTargets, WholeRowsAreSought}
use Rattle.head_laws.proofs.LikeLaw.{IsLike, images_stay}

pub located_places_stay : LocatedPlacesStay
located_places_stay sh R r own o n p born undo start head w q = record { list = w.list; later = one_later r w.later q; own_then = w.own_then; table = w.table; located = w.located }

pub located_were_found : LocatedWereFound
located_were_found sh R own o n p born undo start head w = record {
  list = w.list;
  later = w.later;
  open_then = open_of w.list own w.own_then;
  table = w.table;
  here = w.located.here;
  born_then = w.located.born_now;
  start_is = w.located.start_is;
  bytes = w.located.seen.bytes;
  row = w.located.seen.row;
  undo_is = w.located.seen.undo_is;
}

-- two images of one slot with one undo address are one

same_addr : (a b : UndoAddr) → ◌≡◌ {A = Option UndoAddr} (Some a) (Some b) → a ≡ b
same_addr a b y = cc

abbrev part_after : (Writer → UndoAddr → Bool) → List Made → Option UndoAddr
part_after c [] = None
part_after c (m ∷ ms) = cond (c m.by m.undo) (Some m.part) (part_after c ms)

undo_after : (c : Writer → UndoAddr → Bool) (i : Slot) (ms : List Made) → IsChain i ms → (first_counted c i ms).undo ≡ part_after c ms
undo_after c i [] h = h
undo_after c i (m ∷ ms) h = elim (c m.by m.undo) as (λ v. (cond v i (first_counted c m.old ms)).undo ≡ cond v (Some m.part) (part_after c ms)) [ true ↦ h.0 | false ↦ undo_after c m.old ms h.1 ]

not_after : (c : Writer → UndoAddr → Bool) (m : Made) (ms : List Made) → EachMade (λ x. x.part.block ≡ m.part.block → x.part.seq ≡ m.part.seq → x.part.nth < m.part.nth) ms → part_after c ms ≡ Some m.part → ⊥
not_after c m [] f e = let z : ◌≡◌ {A = Option UndoAddr} None (Some m.part) = e in cc
not_after c m (x ∷ ms) f e =
    (elim (c x.by x.undo) as (λ v. cond v (Some x.part) (part_after c ms) ≡ Some m.part → ⊥) [
      | true ↦ λ y. let p : x.part ≡ m.part = same_addr x.part m.part y in
          let l = f.0 (ap (λ (a : UndoAddr). a.block) p) (ap (λ (a : UndoAddr). a.seq) p) in
          let q : x.part.nth ≡ m.part.nth = ap (λ (a : UndoAddr). a.nth) p in omega (arith, l, q)
      | false ↦ λ y. not_after c m ms f.1 y
    ]) e

-- the one above has another undo address than any below
apart : (c : Writer → UndoAddr → Bool) (i : Slot) (m : Made) (ms : List Made) (a : UndoAddr) → IsChain i (m ∷ ms) → Falls (m ∷ ms) → i.undo ≡ Some a → (first_counted c m.old ms).undo ≡ Some a → ⊥
apart c i m ms a ch f e g =
    let one : m.part ≡ a = same_addr m.part a (sym ch.0 ∙ e) in
    not_after c m ms f.0 (sym (undo_after c m.old ms ch.1) ∙ g ∙ ap (λ (x : UndoAddr). Some x) (sym one))

one_image : (c d : Writer → UndoAddr → Bool) (i : Slot) (ms : List Made) (a : UndoAddr) → IsChain i ms → Falls ms → (first_counted c i ms).undo ≡ Some a → (first_counted d i ms).undo ≡ Some a → first_counted c i ms ≡ first_counted d i ms
one_image c d i [] a ch f e g = refl
one_image c d i (m ∷ ms) a ch f e g =
    (elim (c m.by m.undo) as (λ v. (cond v i (first_counted c m.old ms)).undo ≡ Some a → cond v i (first_counted c m.old ms) ≡ cond (d m.by m.undo) i (first_counted d m.old ms)) [
      | true ↦ λ x. (elim (d m.by m.undo) as (λ u. (cond u i (first_counted d m.old ms)).undo ≡ Some a → i ≡ cond u i (first_counted d m.old ms)) [
        | true ↦ λ y. refl
        | false ↦ λ y. absurd (apart d i m ms a ch f x y)
      ]) g
      | false ↦ λ x. (elim (d m.by m.undo) as (λ u. (cond u i (first_counted d m.old ms)).undo ≡ Some a → first_counted c m.old ms ≡ cond u i (first_counted d m.old ms)) [
        | true ↦ λ y. absurd (apart c i m ms a ch f y x)
        | false ↦ λ y. one_image c d m.old ms a ch.1 f.1 x y
      ]) g
    ]) e

first_all : (i : Slot) (ms : List Made) → first_counted (λ w a. true) i ms ≡ i
first_all i [] = refl
first_all i (m ∷ ms) = refl

one_at : (sh : Shape) (R : List Record) (b k s t : ℕ) (a : UndoAddr) → AreAllowed sh R → (image_at R b k s t).undo ≡ Some a → (image R b k).undo ≡ Some a → image_at R b k s t ≡ image R b k
one_at sh R b k s t a h e g =
    one_image (λ w u. counts R s t w) (λ w u. true) (image R b k) (makers R b k) a (slots_are_chains sh R b k h).chain (makers_fall sh R b k h) e (ap (λ (x : Slot). x.undo) (first_all (image R b k) (makers R b k)) ∙ g)
    ∙ first_all (image R b k) (makers R b k)

-- a row that is free now is not busy

same_step : (x y : Step) → ◌≡◌ {A = Option Step} (Some x) (Some y) → x ≡ y
same_step x y e = cc

not_other : (R : List Record) (t : ℕ) (o : Option Step) (st : Step) (u : ℕ) → MatchOption o (Unit {0}) (λ x. IsFreeFor R t x.by) → o ≡ Some st → st.by ≡ By u → is_active R u ≡ true → u ≡ t
not_other R t None st u f e b on = absurd (let z : ◌≡◌ {A = Option Step} None (Some st) = e in cc)
not_other R t (Some x) st u f e b on = (subst (IsFreeFor R t) (ap (λ (y : Step). y.by) (same_step x st e) ∙ b) f) on

free_not_busy : (R : List Record) (own : Option ℕ) (o n : ℕ) (p : Rowid) (start : ℕ) → IsFreeNow R own o n p start → IsBusyNow R own o n p start → ⊥
free_not_busy R own o n p start x y = y.busy.other (not_other R (number_or_zero own) (newest_on (standing R) n) y.busy.step y.txn x.write.free y.busy.newest y.busy.by_is y.busy.active)

-- whether an undo address is this one

told_addr : (o : Option UndoAddr) (a : UndoAddr) → (o ≡ Some a) ⊎ (o ≢ Some a)
told_addr None a = inr (λ e. let z : ◌≡◌ {A = Option UndoAddr} None (Some a) = e in cc)
told_addr (Some x) a = elim (cases_Bool (is_addr x a)) [
  | inl y ↦ inl (ap (λ (z : UndoAddr). Some z) (addr_same x a y))
  | inr f ↦ inr (λ e. true≢false (sym (addr_self x) ∙ ap (is_addr x) (same_addr x a e) ∙ f))
]

-- a row that is unchanged stands in a block that was not released

later_extends : (P : Effect → Type 0) (Q R : List Record) → Later P Q R → Extends Q R
later_extends P Q R not_later = same
later_extends P Q R (one_later r l p) = more r (later_extends P Q _ l)

unreleased : (sh : Shape) (R : List Record) (own : Option ℕ) (o n : ℕ) (p : Rowid) (born : ℕ) (undo : UndoAddr) (start : ℕ) → AreAllowed sh R → IsOwn R own → (f : WasFound sh R own o n p born undo start) → changed_above R start n ≡ false → is_released_since sh (length f.list) R o p.dba ≡ false
unreleased sh R own o n p born undo start h on f c = elim (cases_Bool (is_released_since sh (length f.list) R o p.dba)) [
  | inr z ↦ z
  | inl y ↦
      let gone : IsBornAt sh R o p.dba born → ⊥ = λ i.
      let l = (rising f.list o).most f.born_then.index f.born_then.extent f.born_then.at in
      let a = f.born_then.born_is in
      let b = i.born_is in
      true≢false (sym y ∙ incarnations_tell_releases sh f.list R o p.dba i.index i.extent h (later_extends (λ e. IsNotOf e (number_or_zero own)) f.list R f.later) f.table i.at i.has (omega (arith, l, a, b))) in
      absurd (true≢false (sym (released_are_changed sh R own o n p born undo start h on f gone).changed ∙ c))
]

stays_of : (sh : Shape) (R : List Record) (own : Option ℕ) (o n : ℕ) (p : Rowid) (born : ℕ) (undo : UndoAddr) (start : ℕ) → AreAllowed sh R → IsOwn R own → (f : WasFound sh R own o n p born undo start) → changed_above R start n ≡ false → StaysSince sh f.list R o p.dba
stays_of sh R own o n p born undo start h on f c = row_blocks_stay_since sh f.list R o p.dba h (later_extends (λ e. IsNotOf e (number_or_zero own)) f.list R f.later) f.table f.here (unreleased sh R own o n p born undo start h on f c)

-- the extent of its block is still the one that was found
pub born_now : (sh : Shape) (R : List Record) (own : Option ℕ) (o n : ℕ) (p : Rowid) (born : ℕ) (undo : UndoAddr) (start : ℕ) → AreAllowed sh R → IsOwn R own → WasFound sh R own o n p born undo start → changed_above R start n ≡ false → IsBornAt sh R o p.dba born
born_now sh R own o n p born undo start h on f c =
    let s = stays_of sh R own o n p born undo start h on f c in
    let b = f.born_then in
    record { index = b.index; extent = b.extent; at = s.same_extent b.index b.extent b.at b.has; has = b.has; born_is = b.born_is }

pub free_are_newest : FreeAreNewest
free_are_newest sh R own o n p born undo start h on f x =
    let t = number_or_zero own in
    let s = stays_of sh R own o n p born undo start h on f x.unchanged in
    let at = born_now sh R own o n p born undo start h on f x.unchanged in
    let tells = places_tell sh f.list R p.dba p.slot t n f.bytes h f.open_then (open_of R own on) (s.quiet t f.later) f.row in
    let now : (now_at R own p).undo ≡ Some undo = tells.same (ap (λ c. changed_above R c n) (sym f.start_is) ∙ x.unchanged) ∙ f.undo_is in
    let top : (image R p.dba p.slot).undo ≡ Some undo = elim (told_addr (image R p.dba p.slot).undo undo) [
      | inl y ↦ y
      | inr z ↦ absurd (free_not_busy R own o n p start x ((places_show sh R own o n p born undo start h on f at).busy now z))
    ] in
    record { seen = one_at sh R p.dba p.slot (commit_count R) t undo h now top; undo_is = top }

-- the head

stands_by : (i j : Slot) (head : Option Rowid) (p : Rowid) → i.kind ≡ j.kind → i.link ≡ j.link → IsHeadOf j head → stand_in i p ≡ stand_by head p
stands_by i j None p k l h = ap (λ (x : Kind). stand_of x i.link p) (k ∙ h)
stands_by i j (Some g) p k l h = ap₂ (λ (x : Kind) (y : Option Rowid). stand_of x y p) (k ∙ h.0) (l ∙ h.1)

pub heads_stay : HeadsStay
unfolding located_were_found
heads_stay sh R own o n p born undo start head h on w x =
    let t = number_or_zero own in
    let f = located_were_found sh R own o n p born undo start head w in
    let quiet : Later (IsQuiet t p.dba) w.list R = (stays_of sh R own o n p born undo start h on f x.unchanged).quiet t w.later in
    let like : IsLike (image_at R p.dba p.slot (commit_count w.list) t) (now_at w.list own p) = images_stay sh p.dba p.slot (commit_count w.list) t w.list R h (le_refl (commit_count w.list)) quiet in
    let top = free_are_newest sh R own o n p born undo start h on f x in
    let one : image_at R p.dba p.slot (commit_count w.list) t ≡ image R p.dba p.slot = one_at sh R p.dba p.slot (commit_count w.list) t undo h (like.undo ∙ w.located.seen.undo_is) top.undo_is in
    stands_by (image R p.dba p.slot) (now_at w.list own p) head p (ap (λ (i : Slot). i.kind) (sym one) ∙ like.kind) (ap (λ (i : Slot). i.link) (sym one) ∙ like.link) w.located.seen.head_is

-- other blocks

other_by : (head : Option Rowid) (p : Rowid) (b : ℕ) → is_left_out (blocks_by head p) b ≡ false → IsOtherThan (stand_by head p) b
other_by None p b h = λ e. eqb-false p.dba b (or_parts (eqb p.dba b) false h).0 (sym e)
other_by (Some g) p b h =
    let q = or_parts (eqb g.dba b) (eqb p.dba b || false) h in
    ((λ e. eqb-false g.dba b q.0 (sym e)), (λ e. eqb-false p.dba b (or_parts (eqb p.dba b) false q.1).0 (sym e)))

left_out_by : (head : Option Rowid) (p : Rowid) (b : ℕ) → IsOtherThan (stand_by head p) b → is_left_out (blocks_by head p) b ≡ false
left_out_by None p b h = ap (λ v. v || false) (ne_eqb p.dba b (λ e. h (sym e)))
left_out_by (Some g) p b h = ap₂ (λ u v. u || (v || false)) (ne_eqb g.dba b (λ e. h.0 (sym e))) (ne_eqb p.dba b (λ e. h.1 (sym e)))

pub targets_are_other : TargetsAreOther
targets_are_other sh R own o n p born undo start head b h on w x =
    let stands = heads_stay sh R own o n p born undo start head h on w x in
    record {
      other = λ e. subst (λ (y : Stand). IsOtherThan y b) (sym stands) (other_by head p b e);
      left_out = λ e. left_out_by head p b (subst (λ (y : Stand). IsOtherThan y b) stands e);
    }

pub found_are_targets : FoundAreTargets
found_are_targets sh R own o n p born undo start head len hint b s h on w x e =
    let t = found_takes sh R (sought_by own o len head p) hint b s h x.write.table e in
    record { here = t.here; takes = t.takes; other = (targets_are_other sh R own o n p born undo start head b h on w x).other t.another }

pub whole_rows_are_sought : WholeRowsAreSought
whole_rows_are_sought sh R own o len p hint = refl
