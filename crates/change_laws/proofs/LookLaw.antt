-- What a place tells when it is looked at later.
use Rattle.std.proofs.Common.{◌≡◌, ◌≢◌, ◌⊎◌, ℕ, ◌≤◌, ◌<◌, Bool, true, false, cond, ◌||◌, ◌&&◌, eqb, leb, List, [], ◌∷◌, length, Contains, MatchOption, Option, Some, None, refl, sym, ◌∙◌, ap, subst, arith, inl, inr, le_refl, le_trans, true≢false, eqb-true, le-leb}
use Rattle.seg_words.proofs.Lemmas.{cases_Bool, cond-true, cond-false, or_cases, or_right}
use Rattle.seg_words.specs.Types.{Shape, Kind, Empty, Row, Head, Body, Rowid, Slot, UndoAddr, Writer, By, At}
use Rattle.redo_model.specs.Records.{Record, Lower}
use Rattle.redo_model.specs.Model.{Step, Effect, effect_of, txn_effect, steps, txn_count, commit_count, is_active, is_committed_by, standing, newest_on, holds_row, view, image, Made, makers, first_counted, counts, image_at, row_at, row_in, data_blocks, under_high, high_mark, Extends, IsTable, IsRowBlock, IsFreeFor, number_or_zero, AreAllowed}
use Rattle.redo_model.specs.Lists.{same, more}
use Rattle.redo_laws.specs.Chain.{IsChain, EachMade}
use Rattle.redo_laws.specs.Since.{any_since}
use Rattle.redo_laws.specs.Stays.{Later, one_later, not_later, IsNotOf}
use Rattle.redo_laws.specs.Views.{IsOpen}
use Rattle.redo_laws.specs.Writers.{EachTells}
use Rattle.redo_laws.proofs.homes.PairsLaw.{heads_name_bodies}
use Rattle.redo_laws.proofs.lists.Prefixes.{extends_length}
use Rattle.redo_laws.proofs.lists.Since.{since_more, since_none}
use Rattle.redo_laws.proofs.links.ChainLaw.{slots_are_chains}
use Rattle.redo_laws.proofs.links.WritersLaw.{writers_are_told}
use Rattle.redo_laws.proofs.numbers.Known.{known, turn}
use Rattle.redo_laws.proofs.numbers.TxnTable.{txn_table}
use Rattle.redo_laws.proofs.space.ApartLaw.{is_listed}
use Rattle.redo_laws.proofs.space.Places.{contains_in, in_take}
use Rattle.redo_laws.proofs.spread.SpreadLaw.{rows_are_spread}
use Rattle.space_laws.proofs.IncarnationsLaw.{rising}
use Rattle.space_laws.proofs.TablesLaw.{tables_stay}
use Rattle.version_laws.specs.Types.{EndsNew, Falls, NewestMade}
use Rattle.version_laws.proofs.Falling.{makers_fall}
use Rattle.version_laws.proofs.NewestLaw.{rows_are_newest, others_hold}
use Rattle.version_laws.proofs.SlotLaw.{slots_are_known, begun_from_one}
use Rattle.scan_laws.specs.Changes.{commits_row, moves_row, changed_above}
use Rattle.scan_laws.specs.Staying.{releases, is_released_since}
use Rattle.scan_laws.proofs.StayingLaw.{row_blocks_stay_since, released_are_gone, incarnations_tell_releases}
use Rattle.row_laws.proofs.PlaceLaw.{places_tell}
use Rattle.change_laws.specs.Ready.{IsOwn, StandsAt}
use Rattle.change_laws.specs.Looks.{stand_of, now_at, row_now, IsBornAt, WasFound, IsFreeNow, IsBusyNow, PlacesShow, ReleasedAreChanged, RowsHaveUndo}

-- own

pub open_of : (R : List Record) (own : Option ℕ) → IsOwn R own → IsOpen R (number_or_zero own)
open_of R None h = inl refl
open_of R (Some t) h = inr h

later_extends : (P : Effect → Type 0) (Q R : List Record) → Later P Q R → Extends Q R
later_extends P Q R not_later = same
later_extends P Q R (one_later r l p) = more r (later_extends P Q _ l)

txns_rise : (sh : Shape) (P : Effect → Type 0) (Q R : List Record) → AreAllowed sh R → Later P Q R → txn_count Q ≤ txn_count R
txns_rise sh P Q R h not_later = le_refl (txn_count Q)
txns_rise sh P Q R h (one_later {R = S} r l p) = le_trans (txns_rise sh P Q S h.0 l) (turn sh S r h.1.kind).more

-- a transaction that was open earlier and is now was open between
open_before : (sh : Shape) (P : Effect → Type 0) (Q S : List Record) (r : Record) (t : ℕ) → AreAllowed sh (r ∷ S) → Later P Q S → IsOpen Q t → AreAllowed sh Q → IsOpen (r ∷ S) t → IsOpen S t
open_before sh P Q S r t h l (inl z) a o = inl z
open_before sh P Q S r t h l (inr on) a (inl z) = inl z
open_before sh P Q S r t h l (inr on) a (inr now) = elim ((turn sh S r h.1.kind).live t now) [
  | inl y ↦ inr y
  | inr k ↦ (let b = (known sh Q 0 t a).begins on in let m = txns_rise sh P Q S h.0 l in absurd (omega (arith, k, b, m)))
]

-- the undo address of an image

abbrev part_after : (Writer → UndoAddr → Bool) → List Made → Option UndoAddr
part_after c [] = None
part_after c (m ∷ ms) = cond (c m.by m.undo) (Some m.part) (part_after c ms)

undo_after : (c : Writer → UndoAddr → Bool) (i : Slot) (ms : List Made) → IsChain i ms → (first_counted c i ms).undo ≡ part_after c ms
undo_after c i [] h = h
undo_after c i (m ∷ ms) h = elim (c m.by m.undo) as (λ v. (cond v i (first_counted c m.old ms)).undo ≡ cond v (Some m.part) (part_after c ms)) [ true ↦ h.0 | false ↦ undo_after c m.old ms h.1 ]

same_addr : (a b : UndoAddr) → ◌≡◌ {A = Option UndoAddr} (Some a) (Some b) → a ≡ b
same_addr a b y = cc

not_after : (c : Writer → UndoAddr → Bool) (m : Made) (ms : List Made) → EachMade (λ x. x.part.block ≡ m.part.block → x.part.seq ≡ m.part.seq → x.part.nth < m.part.nth) ms → part_after c ms ≡ Some m.part → ⊥
not_after c m [] f e = let z : ◌≡◌ {A = Option UndoAddr} None (Some m.part) = e in cc
not_after c m (x ∷ ms) f e =
    (elim (c x.by x.undo) as (λ v. cond v (Some x.part) (part_after c ms) ≡ Some m.part → ⊥) [
      | true ↦ λ y. let p : x.part ≡ m.part = same_addr x.part m.part y in
          let l = f.0 (ap (λ (a : UndoAddr). a.block) p) (ap (λ (a : UndoAddr). a.seq) p) in
          let q : x.part.nth ≡ m.part.nth = ap (λ (a : UndoAddr). a.nth) p in omega (arith, l, q)
      | false ↦ λ y. not_after c m ms f.1 y
    ]) e

-- the newest image is the first that counts where both have one undo address
head_counts : (c : Writer → UndoAddr → Bool) (i : Slot) (m : Made) (ms : List Made) (a : UndoAddr) → IsChain i (m ∷ ms) → Falls (m ∷ ms) → (first_counted c i (m ∷ ms)).undo ≡ Some a → i.undo ≡ Some a → c m.by m.undo ≡ true
head_counts c i m ms a ch f e g = elim (cases_Bool (c m.by m.undo)) [
  | inl y ↦ y
  | inr n ↦
      let one : m.part ≡ a = same_addr m.part a (sym ch.0 ∙ g) in
      let after : part_after c ms ≡ Some m.part = sym (undo_after c m.old ms ch.1) ∙ ap (λ (x : Slot). x.undo) (sym (cond-false _ i (first_counted c m.old ms) n)) ∙ e ∙ ap (λ (x : UndoAddr). Some x) (sym one) in
      absurd (not_after c m ms f.0 after)
]

record HeadCounts (R : List Record) (b k s t : ℕ) : Type 0 where
  seen : image_at R b k s t ≡ image R b k
  counted : (m : Made) (rest : List Made) → makers R b k ≡ m ∷ rest → counts R s t m.by ≡ true

same_made : (xs : List Made) (m : Made) (ms : List Made) (d : Made) (ds : List Made) → xs ≡ m ∷ ms → xs ≡ d ∷ ds → m ≡ d
same_made xs m ms d ds e f = let z : ◌≡◌ {A = List Made} (m ∷ ms) (d ∷ ds) = sym e ∙ f in cc

head_of : (R : List Record) (b k s t : ℕ) (a : UndoAddr) (ms : List Made) → makers R b k ≡ ms → IsChain (image R b k) ms → Falls ms → (first_counted (λ w u. counts R s t w) (image R b k) ms).undo ≡ Some a → (image R b k).undo ≡ Some a → HeadCounts R b k s t
head_of R b k s t a [] q ch f e g = record {
  seen = ap (first_counted (λ w u. counts R s t w) (image R b k)) q;
  counted = λ m rest y. absurd (let z : ◌≡◌ {A = List Made} [] (m ∷ rest) = sym q ∙ y in cc);
}
head_of R b k s t a (m ∷ ms) q ch f e g =
    let on = head_counts (λ w u. counts R s t w) (image R b k) m ms a ch f e g in
    record {
      seen = ap (first_counted (λ w u. counts R s t w) (image R b k)) q ∙ cond-true _ _ _ on;
      counted = λ d rest y. ap (λ (x : Made). counts R s t x.by) (same_made (makers R b k) d rest m ms y q) ∙ on;
    }

-- rows

holds_of : (i : Slot) (n : ℕ) (bytes : List ℕ) → row_in i ≡ Some (n, bytes) → (holds_row i.kind ≡ true) × (i.row ≡ n)
holds_of i n bytes e = elim (cases_Bool (holds_row i.kind)) [
  | inl y ↦ (y, ap (λ (o : Option (ℕ × List ℕ)). elim o as (λ _. ℕ) [ None ↦ 0 | Some p ↦ p.0 ]) (sym (cond-true _ _ _ y) ∙ e))
  | inr f ↦ absurd (let z : ◌≡◌ {A = Option (ℕ × List ℕ)} None (Some (n, bytes)) = sym (cond-false _ _ _ f) ∙ e in cc)
]

no_row : (n : ℕ) (bytes : List ℕ) → ◌≡◌ {A = Option (ℕ × List ℕ)} None (Some (n, bytes)) → ⊥
no_row n bytes e = cc

record UndoIn (i : Slot) : Type 0 where
  undo : UndoAddr
  undo_is : i.undo ≡ Some undo

seen_undo : (c : Writer → UndoAddr → Bool) (i : Slot) (ms : List Made) (n : ℕ) (bytes : List ℕ) → IsChain i ms → EndsNew i ms → row_in (first_counted c i ms) ≡ Some (n, bytes) → UndoIn (first_counted c i ms)
seen_undo c i [] n bytes ch en e = absurd (no_row n bytes (ap row_in (sym en) ∙ e))
seen_undo c i (m ∷ ms) n bytes ch en e =
    (elim (c m.by m.undo) as (λ v. row_in (cond v i (first_counted c m.old ms)) ≡ Some (n, bytes) → UndoIn (cond v i (first_counted c m.old ms))) [
      | true ↦ λ y. record { undo = m.part; undo_is = ch.0 }
      | false ↦ λ y. seen_undo c m.old ms n bytes ch.1 en y
    ]) e

pub rows_have_undo : RowsHaveUndo
rows_have_undo sh R b k s t n bytes h e =
    let x = seen_undo (λ w a. counts R s t w) (image R b k) (makers R b k) n bytes (slots_are_chains sh R b k h).chain (slots_are_known sh R b k h).ends e in
    record { undo = x.undo; undo_is = x.undo_is }

-- where an image's row stands

stands_by : (sh : Shape) (R : List Record) (n : ℕ) (p : Rowid) (kind : Kind) → AreAllowed sh R → (image R p.dba p.slot).kind ≡ kind → holds_row kind ≡ true → (image R p.dba p.slot).row ≡ n → StandsAt R n (stand_of kind (image R p.dba p.slot).link p)
stands_by sh R n p Empty h k y r = absurd (true≢false (sym y))
stands_by sh R n p Head h k y r = absurd (true≢false (sym y))
stands_by sh R n p Row h k y r = record { kind = k; row = r }
stands_by sh R n p Body h k y r =
    let x = (heads_name_bodies sh R p.dba p.slot h).body k in
    subst (λ (o : Option Rowid). StandsAt R n (stand_of Body o p)) (sym x.link)
    (record { head_kind = x.kind; head_row = x.row ∙ r; head_link = x.back; body_kind = k; body_row = r; body_link = x.link })

-- a writer that counts at all commits isn't another active transaction

free_of : (sh : Shape) (R : List Record) (s t : ℕ) (w : Writer) → AreAllowed sh R → counts R s t w ≡ true → IsFreeFor R t w
free_of sh R s t (At c) h y = tt
free_of sh R s t (By u) h y = λ on. elim (or_cases (eqb u t) (is_committed_by R s u) y) [
  | inl z ↦ eqb-true u t z
  | inr z ↦ absurd (true≢false (sym z ∙ (known sh R s u h).open' on))
]

free_newest : (R : List Record) (t : ℕ) (o : Option Step) (st : Step) → o ≡ Some st → IsFreeFor R t st.by → MatchOption o (Unit {0}) (λ x. IsFreeFor R t x.by)
free_newest R t None st e f = tt
free_newest R t (Some x) st e f = subst (λ (z : Step). IsFreeFor R t z.by) (one x st (sym e)) f
  where
    one : (a b : Step) → ◌≡◌ {A = Option Step} (Some b) (Some a) → b ≡ a
    one a b y = cc

-- since the place was found

record Still (sh : Shape) (R : List Record) (own : Option ℕ) (o n : ℕ) (p : Rowid) (undo : UndoAddr) (start : ℕ) : Type 0 where
  table : IsTable R o
  here : IsRowBlock sh R o p.dba
  bytes : List ℕ
  same_undo : changed_above R start n ≡ false → (now_at R own p).undo ≡ Some undo
  row : changed_above R start n ≡ false → row_now R own p ≡ Some (n, bytes)
  other : changed_above R start n ≡ true → (now_at R own p).undo ≢ Some undo

still : (sh : Shape) (R : List Record) (own : Option ℕ) (o n : ℕ) (p : Rowid) (born : ℕ) (undo : UndoAddr) (start : ℕ) → AreAllowed sh R → IsOwn R own → (f : WasFound sh R own o n p born undo start) → is_released_since sh (length f.list) R o p.dba ≡ false
    → Still sh R own o n p undo start
still sh R own o n p born undo start h on f none =
    let x = later_extends (λ e. IsNotOf e (number_or_zero own)) f.list R f.later in
    let s = row_blocks_stay_since sh f.list R o p.dba h x f.table f.here none in
    let q = s.quiet (number_or_zero own) f.later in
    let tells = places_tell sh f.list R p.dba p.slot (number_or_zero own) n f.bytes h f.open_then (open_of R own on) q f.row in
    let back : (v : Bool) → changed_above R start n ≡ v → changed_above R (commit_count f.list) n ≡ v = λ v e. ap (λ c. changed_above R c n) (sym f.start_is) ∙ e in
    record {
      table = (tables_stay sh f.list R o h x f.table).there;
      here = s.row_block;
      bytes = f.bytes;
      same_undo = λ e. tells.same (back false e) ∙ f.undo_is;
      row = λ e. tells.row (back false e);
      other = λ e z. tells.other (back true e) (z ∙ sym f.undo_is);
    }

unchanged_of : (R : List Record) (own : Option ℕ) (n : ℕ) (p : Rowid) (undo : UndoAddr) (start : ℕ) → (changed_above R start n ≡ true → (now_at R own p).undo ≢ Some undo) → (now_at R own p).undo ≡ Some undo → changed_above R start n ≡ false
unchanged_of R own n p undo start f e = elim (cases_Bool (changed_above R start n)) [ inl y ↦ absurd (f y e) | inr z ↦ z ]

free_now : (sh : Shape) (R : List Record) (own : Option ℕ) (o n : ℕ) (p : Rowid) (undo : UndoAddr) (start : ℕ) → AreAllowed sh R → IsOwn R own → Still sh R own o n p undo start → (now_at R own p).undo ≡ Some undo → (image R p.dba p.slot).undo ≡ Some undo
    → IsFreeNow R own o n p start
free_now sh R own o n p undo start h on x e g =
    let t = number_or_zero own in
    let s = commit_count R in
    let still' = unchanged_of R own n p undo start x.other e in
    let head = head_of R p.dba p.slot s t undo (makers R p.dba p.slot) refl (slots_are_chains sh R p.dba p.slot h).chain (makers_fall sh R p.dba p.slot h) e g in
    let row = x.row still' in
    let holds = holds_of (image R p.dba p.slot) n x.bytes (ap row_in (sym head.seen) ∙ row) in
    let made : NewestMade R p.dba p.slot n = subst (NewestMade R p.dba p.slot) holds.1 (rows_are_newest sh R p.dba p.slot h holds.0) in
    record {
      unchanged = still';
      write = record {
        active = on;
        table = x.table;
        was = x.bytes;
        there = (rows_are_spread sh R o s t h x.table (le_refl s) (open_of R own on)).viewed p.dba p.slot n x.bytes x.here row;
        free = free_newest R t (newest_on (standing R) n) made.step made.newest (free_of sh R s t made.step.by h (ap (counts R s t) made.by_is ∙ head.counted made.made made.rest made.list));
        stands = stands_by sh R n p (image R p.dba p.slot).kind h refl holds.0 holds.1;
      };
    }

-- the writer of the image that an active transaction made is the transaction

writer_told : (sh : Shape) (R : List Record) (b k u : ℕ) (m : Made) (ms : List Made) (w : Writer) → AreAllowed sh R → makers R b k ≡ m ∷ ms → m.by ≡ By u → is_active R u ≡ true → (image R b k).writer ≡ w → w ≡ By u
writer_told sh R b k u m ms (By v) h l by on e =
    let tells : EachTells R 0 0 (image R b k) (m ∷ ms) = subst (EachTells R 0 0 (image R b k)) l (writers_are_told sh R 0 0 b k h (inl refl)).images in
    sym (tells.0.by v e) ∙ by
writer_told sh R b k u m ms (At c) h l by on e =
    let tells : EachTells R c 0 (image R b k) (m ∷ ms) = subst (EachTells R c 0 (image R b k)) l (writers_are_told sh R c 0 b k h (inl refl)).images in
    let counted : counts R c 0 (By u) ≡ true = ap (counts R c 0) (sym by) ∙ tells.0.at c e ∙ le-leb c c (le_refl c) in
    elim (or_cases (eqb u 0) (is_committed_by R c u) counted) [
      | inl y ↦ absurd (zero_active (eqb-true u 0 y))
      | inr y ↦ absurd (true≢false (sym y ∙ (known sh R c u h).open' on))
    ]
  where
    zero_active : u ≡ 0 → ⊥
    zero_active z = let l = begun_from_one sh R u h ((txn_table sh R h).begun u on) in omega (arith, l, z)

busy_now : (sh : Shape) (R : List Record) (own : Option ℕ) (o n : ℕ) (p : Rowid) (undo : UndoAddr) (start : ℕ) (ms : List Made) → makers R p.dba p.slot ≡ ms → AreAllowed sh R → IsOwn R own → Still sh R own o n p undo start
    → (first_counted (λ w a. counts R (commit_count R) (number_or_zero own) w) (image R p.dba p.slot) ms).undo ≡ Some undo → (image R p.dba p.slot).undo ≢ Some undo → changed_above R start n ≡ false → IsBusyNow R own o n p start
busy_now sh R own o n p undo start [] q h on x e g c = absurd (g e)
busy_now sh R own o n p undo start (m ∷ ms) q h on x e g c = elim (cases_Bool (counts R (commit_count R) (number_or_zero own) m.by)) [
  | inl y ↦ absurd (g (ap (λ (i : Slot). i.undo) (sym (cond-true _ (image R p.dba p.slot) (first_counted (λ w a. counts R (commit_count R) (number_or_zero own) w) m.old ms) y)) ∙ e))
  | inr off ↦
      let held = others_hold sh R p.dba p.slot (commit_count R) (number_or_zero own) n x.bytes m ms h (le_refl (commit_count R)) (open_of R own on) (x.row c) q off in
      record {
        unchanged = c;
        was = x.bytes;
        there = (rows_are_spread sh R o (commit_count R) (number_or_zero own) h x.table (le_refl (commit_count R)) (open_of R own on)).viewed p.dba p.slot n x.bytes x.here (x.row c);
        txn = held.txn;
        writer = writer_told sh R p.dba p.slot held.txn held.made held.rest (image R p.dba p.slot).writer h held.list held.by_is held.active refl;
        busy = record { step = held.step; newest = held.newest; by_is = held.step_by; active = held.active; other = held.other };
      }
]

-- an unchanged row is free or busy

free_or_busy : (sh : Shape) (R : List Record) (own : Option ℕ) (o n : ℕ) (p : Rowid) (undo : UndoAddr) (start : ℕ) (ms : List Made) → makers R p.dba p.slot ≡ ms → AreAllowed sh R → IsOwn R own → Still sh R own o n p undo start → (now_at R own p).undo ≡ Some undo
    → (first_counted (λ w a. counts R (commit_count R) (number_or_zero own) w) (image R p.dba p.slot) ms).undo ≡ Some undo → changed_above R start n ≡ false → IsFreeNow R own o n p start ⊎ IsBusyNow R own o n p start
free_or_busy sh R own o n p undo start [] q h on x e f c = inl (free_now sh R own o n p undo start h on x e f)
free_or_busy sh R own o n p undo start (m ∷ ms) q h on x e f c =
    let chain = subst (IsChain (image R p.dba p.slot)) q (slots_are_chains sh R p.dba p.slot h).chain in
    let falls = subst Falls q (makers_fall sh R p.dba p.slot h) in
    elim (cases_Bool (counts R (commit_count R) (number_or_zero own) m.by)) [
      | inl y ↦ inl (free_now sh R own o n p undo start h on x e (ap (λ (i : Slot). i.undo) (sym (cond-true _ (image R p.dba p.slot) (first_counted (λ w a. counts R (commit_count R) (number_or_zero own) w) m.old ms) y)) ∙ f))
      | inr off ↦ inr (busy_now sh R own o n p undo start (m ∷ ms) q h on x f (λ g. absurd (true≢false (sym (head_counts (λ w a. counts R (commit_count R) (number_or_zero own) w) (image R p.dba p.slot) m ms undo chain falls f g) ∙ off))) c)
    ]

-- a block that the table still has was not released

not_released : (sh : Shape) (R : List Record) (own : Option ℕ) (o n : ℕ) (p : Rowid) (born : ℕ) (undo : UndoAddr) (start : ℕ) → AreAllowed sh R → (f : WasFound sh R own o n p born undo start) → IsBornAt sh R o p.dba born → is_released_since sh (length f.list) R o p.dba ≡ false
not_released sh R own o n p born undo start h f i =
    let l = (rising f.list o).most f.born_then.index f.born_then.extent f.born_then.at in
    let a = f.born_then.born_is in
    let b = i.born_is in
    incarnations_tell_releases sh f.list R o p.dba i.index i.extent h (later_extends (λ e. IsNotOf e (number_or_zero own)) f.list R f.later) f.table i.at i.has (omega (arith, l, a, b))

pub places_show : PlacesShow
places_show sh R own o n p born undo start h on f i =
    let x = still sh R own o n p born undo start h on f (not_released sh R own o n p born undo start h f i) in
    record {
      here = x.here;
      changed = λ e. record { changed = elim (cases_Bool (changed_above R start n)) [ inl y ↦ y | inr z ↦ absurd (e (x.same_undo z)) ]; now = refl };
      free = λ e g. free_now sh R own o n p undo start h on x e g;
      busy = λ e g. busy_now sh R own o n p undo start (makers R p.dba p.slot) refl h on x e g (unchanged_of R own n p undo start x.other e);
    }

-- a released block

data_of_row : (sh : Shape) (R : List Record) (o b : ℕ) → IsRowBlock sh R o b → Contains (data_blocks sh R o) b
data_of_row sh R o b h = contains_in (data_blocks sh R o) b (in_take b (high_mark R o) (data_blocks sh R o) (is_listed (under_high sh R o) b h.here))

-- a released block gives no row
lower_bare : (sh : Shape) (S : List Record) (r : Record) (o b k t n : ℕ) (bytes : List ℕ) → AreAllowed sh (r ∷ S) → IsTable S o → IsRowBlock sh S o b → IsOpen S t → releases sh o b r ≡ true → row_at S b k (commit_count S) t ≡ Some (n, bytes) → ⊥
lower_bare sh S (Lower l) o b k t n bytes h table here op y e =
    let s = commit_count S in
    let seen : view S o s t n ≡ Some bytes = (rows_are_spread sh S o s t h.0 table (le_refl s) op).viewed b k n bytes here e in
    let next : IsTable (Lower l ∷ S) o = record { least = table.least; most = table.most } in
    let spread = rows_are_spread sh (Lower l ∷ S) o s t h next (le_refl s) op in
    let g = spread.given n bytes seen in
    let one = spread.once b k g.block g.slot n bytes bytes e g.gives in
    (released_are_gone sh S (Lower l) o b h table y).no_data (subst (λ c. Contains (data_blocks sh (Lower l ∷ S) o) c) (sym one.0) (data_of_row sh (Lower l ∷ S) o g.block g.here))
lower_bare sh S _ o b k t n bytes h table here op y e = absurd (true≢false (sym y))

changed_more : (S : List Record) (r : Record) (s n : ℕ) → changed_above S s n ≡ true → changed_above (r ∷ S) s n ≡ true
changed_more S r s n e = or_right (leb s (commit_count S) && (commits_row (txn_effect r) (steps S) n || moves_row (effect_of r) n)) (changed_above S s n) e

gone : (sh : Shape) (Q : List Record) (t o b k n : ℕ) (bytes : List ℕ) (R : List Record) → AreAllowed sh Q → AreAllowed sh R → IsOpen Q t → IsOpen R t → IsTable Q o → IsRowBlock sh Q o b → row_at Q b k (commit_count Q) t ≡ Some (n, bytes)
    → Later (λ e. IsNotOf e t) Q R → any_since (releases sh o b) (length Q) R ≡ true → changed_above R (commit_count Q) n ≡ true
gone sh Q t o b k n bytes R a h oq op table here row not_later y = absurd (true≢false (sym y ∙ since_none (releases sh o b) Q (length Q) (le_refl (length Q))))
gone sh Q t o b k n bytes R a h oq op table here row (one_later {R = S} r l p) y =
    let x = later_extends (λ e. IsNotOf e t) Q S l in
    let before = open_before sh (λ e. IsNotOf e t) Q S r t h l oq a op in
    elim (cases_Bool (any_since (releases sh o b) (length Q) S)) [
      | inl z ↦ changed_more S r (commit_count Q) n (gone sh Q t o b k n bytes S a h.0 oq before table here row l z)
      | inr none ↦ elim (cases_Bool (changed_above S (commit_count Q) n)) [
        | inl z ↦ changed_more S r (commit_count Q) n z
        | inr f ↦
            let s = row_blocks_stay_since sh Q S o b h.0 x table here none in
            let tells = places_tell sh Q S b k t n bytes h.0 oq before (s.quiet t l) row in
            let now : releases sh o b r ≡ true = elim (or_cases (releases sh o b r) (any_since (releases sh o b) (length Q) S) (sym (since_more (releases sh o b) (length Q) S r (extends_length Q S x)) ∙ y)) [
              | inl z ↦ z
              | inr z ↦ absurd (true≢false (sym z ∙ none))
            ] in
            absurd (lower_bare sh S r o b k t n bytes h (tables_stay sh Q S o h.0 x table).there s.row_block before now (tells.row f))
      ]
    ]

early_allowed : (sh : Shape) (P : Effect → Type 0) (Q R : List Record) → Later P Q R → AreAllowed sh R → AreAllowed sh Q
early_allowed sh P Q R not_later h = h
early_allowed sh P Q R (one_later {R = S} r l p) h = early_allowed sh P Q S l h.0

since_changed : (sh : Shape) (R : List Record) (own : Option ℕ) (o n : ℕ) (p : Rowid) (born : ℕ) (undo : UndoAddr) (start : ℕ) → AreAllowed sh R → IsOwn R own → (f : WasFound sh R own o n p born undo start) → is_released_since sh (length f.list) R o p.dba ≡ true
    → changed_above R start n ≡ true
since_changed sh R own o n p born undo start h on f since =
    ap (λ c. changed_above R c n) f.start_is
    ∙ gone sh f.list (number_or_zero own) o p.dba p.slot n f.bytes R (early_allowed sh (λ e. IsNotOf e (number_or_zero own)) f.list R f.later h) h f.open_then (open_of R own on) f.table f.here f.row f.later since

pub released_are_changed : ReleasedAreChanged
released_are_changed sh R own o n p born undo start h on f none =
    let x = later_extends (λ e. IsNotOf e (number_or_zero own)) f.list R f.later in
    let since : is_released_since sh (length f.list) R o p.dba ≡ true = elim (cases_Bool (is_released_since sh (length f.list) R o p.dba)) [
      | inl y ↦ y
      | inr z ↦
          let s = row_blocks_stay_since sh f.list R o p.dba h x f.table f.here z in
          let b = f.born_then in
          absurd (none (record { index = b.index; extent = b.extent; at = s.same_extent b.index b.extent b.at b.has; has = b.has; born_is = b.born_is }))
    ] in
    record { changed = since_changed sh R own o n p born undo start h on f since; now = refl }

-- a row that was found is free or busy where nothing changed it since, whether or not its block was released
pub unchanged_shown : (sh : Shape) (R : List Record) (own : Option ℕ) (o n : ℕ) (p : Rowid) (born : ℕ) (undo : UndoAddr) (start : ℕ) → AreAllowed sh R → IsOwn R own → WasFound sh R own o n p born undo start → changed_above R start n ≡ false
    → IsFreeNow R own o n p start ⊎ IsBusyNow R own o n p start
unchanged_shown sh R own o n p born undo start h on f c = elim (cases_Bool (is_released_since sh (length f.list) R o p.dba)) [
  | inl y ↦ absurd (true≢false (sym (since_changed sh R own o n p born undo start h on f y) ∙ c))
  | inr z ↦ let x = still sh R own o n p born undo start h on f z in let e = x.same_undo c in free_or_busy sh R own o n p undo start (makers R p.dba p.slot) refl h on x e e c
]
