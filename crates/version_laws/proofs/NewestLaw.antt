-- What the newest makers tell, at all commits.
use Rattle.std.proofs.Common.{◌≡◌, ◌≢◌, ℕ, ◌≤◌, Bool, true, false, cond, not, ◌&&◌, ◌||◌, eqb, List, [], ◌∷◌, Option, Some, None, refl, sym, ◌∙◌, ap, ap₂, subst, ◌⊎◌, inl, inr, true≢false, eq-eqb}
use Rattle.seg_words.proofs.Lemmas.{cond-true, cond-false, cases_Bool, or_parts, or_cases, or_left, or_right, and_right, and_from}
use Rattle.seg_words.specs.Types.{Shape, Slot, UndoAddr, Writer, By, At}
use Rattle.redo_model.specs.Records.{Record}
use Rattle.redo_model.specs.Model.{Step, commit_count, is_active, is_committed_by, is_by, is_addr, standing, newest_on, holds_row, image, Made, without, makers, first_counted, row_in, counts, row_at, AreAllowed}
use Rattle.redo_laws.proofs.lists.Every.{Every, every-map}
use Rattle.redo_laws.proofs.steps.OnTop.{is_named, addr_self, OnTop, head_named, off_named}
use Rattle.redo_laws.proofs.steps.Facts.{Counted, Found, place_of, located, seen, IfSettled, SameCounts, IsClosed}
use Rattle.redo_laws.proofs.steps.Held.{Stands, own}
use Rattle.redo_laws.proofs.spread.Spread.{good, by_of, located_newest}
use Rattle.redo_laws.proofs.spread.Views.{Settled, ready}
use Rattle.redo_laws.proofs.spread.Union.{closed_counts}
use Rattle.redo_laws.proofs.spread.Fitting.{all, closed_all, all_first, now_found, now_shown}
use Rattle.redo_laws.proofs.spread.Whole.{whole}
use Rattle.version_laws.specs.Types.{Stamp, made_stamp, step_stamp, NewestMade, RowsAreNewest, GivenAreNewest, OthersHold}
use Rattle.version_laws.proofs.Newest.{stamped}

-- the newest step on a row that stands somewhere

record HeadStep (ss : List Step) (n : ℕ) : Type 0 where
  step : Step
  newest : newest_on ss n ≡ Some step
  stamp : step_stamp all ss n ≡ Some (record { by = step.by; undo = step.undo })

head_step : (c : Counted) (ss : List Step) (n b k : ℕ) (x : List ℕ) → located c ss n ≡ Some (b, k, x) → HeadStep ss n
head_step c [] n b k x e = absurd (let z : ◌≡◌ {A = Option Found} None (Some (b, k, x)) = e in cc)
head_step c (s ∷ ss) n b k x e = elim (cases_Bool (eqb s.row n)) [
  | inl y ↦ record { step = s; newest = cond-true _ _ _ y; stamp = cond-true _ _ _ y }
  | inr f ↦
      let h = head_step c ss n b k x (sym (cond-false _ _ _ (and_right (c s.by s.undo) (eqb s.row n) f)) ∙ e) in
      record { step = h.step; newest = cond-false _ _ _ f ∙ h.newest; stamp = cond-false _ _ _ f ∙ h.stamp }
]

holds_in : (i : Slot) (n : ℕ) → holds_row i.kind ≡ true → i.row ≡ n → row_in i ≡ Some (n, i.bytes)
holds_in i n h e = cond-true _ _ _ h ∙ ap (λ m. Some (m, i.bytes)) e

same_stamp : (x y : Stamp) → ◌≡◌ {A = Option Stamp} (Some x) (Some y) → x ≡ y
same_stamp x y e = cc

made_of : (R : List Record) (b k n : ℕ) (ms : List Made) → makers R b k ≡ ms → (h : HeadStep (standing R) n) → made_stamp all ms ≡ step_stamp all (standing R) n → NewestMade R b k n
made_of R b k n [] e h s = absurd (let z : ◌≡◌ {A = Option Stamp} None (Some (record { by = h.step.by; undo = h.step.undo })) = s ∙ h.stamp in cc)
made_of R b k n (m ∷ ms) e h s =
    let same = same_stamp (record { by = m.by; undo = m.undo }) (record { by = h.step.by; undo = h.step.undo }) (s ∙ h.stamp) in
    record { made = m; rest = ms; list = e; step = h.step; newest = h.newest; by_is = sym (ap (λ (z : Stamp). z.by) same); undo_is = sym (ap (λ (z : Stamp). z.undo) same) }

now_made : (sh : Shape) (R : List Record) (b k n : ℕ) (x : List ℕ) → AreAllowed sh R → row_in (image R b k) ≡ Some (n, x) → NewestMade R b k n
now_made sh R b k n x h e =
    let w = whole sh R h in
    let seen_is : seen all R b k ≡ Some (n, x) = ap row_in (all_first (image R b k) (makers R b k)) ∙ e in
    made_of R b k n (makers R b k) refl (head_step all (standing R) n b k x (now_found sh R b k n x w.fit e)) (stamped sh R w.fit all (closed_all (is_active R) (standing R)) b k n x seen_is)

pub rows_are_newest : RowsAreNewest
rows_are_newest sh R b k h y = now_made sh R b k (image R b k).row (image R b k).bytes h (holds_in (image R b k) (image R b k).row y refl)

closed_at : (sh : Shape) (R : List Record) (s t : ℕ) → AreAllowed sh R → commit_count R ≤ s → IsClosed (λ w a. counts R s t w) (is_active R) (standing R)
closed_at sh R s t h l = closed_counts R s t (standing R) ((ready sh R (whole sh R h).fit).settled s l)

pub given_are_newest : GivenAreNewest
given_are_newest sh R b k s t n x h l on e = stamped sh R (whole sh R h).fit (λ w a. counts R s t w) (closed_at sh R s t h l) b k n x e

-- what counts, or is by u

abbrev or_by : Counted → ℕ → Counted
or_by c u w a = c w a || is_by w u

settled_or : (active : ℕ → Bool) (w : Writer) (P Q : Type 0) → (P → Q) → IfSettled active w P → IfSettled active w Q
settled_or active (By u) P Q f h = λ off. f (h off)
settled_or active (At m) P Q f h = f h

closed_or : (R : List Record) (s t u : ℕ) (active : ℕ → Bool) (ss : List Step) → IsClosed (λ w a. counts R s t w) active ss → IsClosed (or_by (λ w a. counts R s t w) u) active ss
closed_or R s t u active [] h = tt
closed_or R s t u active (x ∷ ss) h = (settled_or active x.by _ _ (λ e. or_left (counts R s t x.by) (is_by x.by u) e) h.0, (λ on. same ss on), closed_or R s t u active ss h.2)
  where
    same : (ss : List Step) → (counts R s t x.by || is_by x.by u) ≡ true → SameCounts (or_by (λ w a. counts R s t w) u) x.by ss
    same [] on = tt
    same (y ∷ ss) on = ((λ e. ap (λ w. counts R s t w || is_by w u) e ∙ on), same ss on)

abbrev pub has_by : ℕ → List Made → Bool
has_by u [] = false
has_by u (m ∷ ms) = is_by m.by u || has_by u ms

-- where no maker is by u it adds nothing
none_first : (c : Counted) (u : ℕ) (i : Slot) (ms : List Made) → has_by u ms ≡ false → first_counted (or_by c u) i ms ≡ first_counted c i ms
none_first c u i [] f = refl
none_first c u i (m ∷ ms) f =
    let q = or_parts (is_by m.by u) (has_by u ms) f in
    ap₂ (λ v j. cond v i j) (ap (λ z. c m.by m.undo || z) q.0 ∙ or_false (c m.by m.undo)) (none_first c u m.old ms q.1)
  where
    or_false : (x : Bool) → (x || false) ≡ x
    or_false true = refl
    or_false false = refl

none_stamp : (c : Counted) (u : ℕ) (ms : List Made) (x : Stamp) → has_by u ms ≡ false → made_stamp c ms ≡ Some x → is_by x.by u ≡ false
none_stamp c u [] x f e = absurd (let z : ◌≡◌ {A = Option Stamp} None (Some x) = e in cc)
none_stamp c u (m ∷ ms) x f e =
    let q = or_parts (is_by m.by u) (has_by u ms) f in
    (elim (c m.by m.undo) as (λ v. cond v (Some (record { by = m.by; undo = m.undo })) (made_stamp c ms) ≡ Some x → is_by x.by u ≡ false) [
      | true ↦ λ y. subst (λ (z : Stamp). is_by z.by u ≡ false) (same_stamp _ x y) q.0
      | false ↦ λ y. none_stamp c u ms x q.1 y
    ]) e

step_newest : (c : Counted) (ss : List Step) (n : ℕ) (last : Step) → newest_on ss n ≡ Some last → c last.by last.undo ≡ true → step_stamp c ss n ≡ Some (record { by = last.by; undo = last.undo })
step_newest c [] n last h y = absurd (let x : ◌≡◌ {A = Option Step} None (Some last) = h in cc)
step_newest c (x ∷ ss) n last h y =
    (elim (eqb x.row n) as (λ v. cond v (Some x) (newest_on ss n) ≡ Some last → cond (c x.by x.undo && v) (Some (record { by = x.by; undo = x.undo })) (step_stamp c ss n) ≡ Some (record { by = last.by; undo = last.undo })) [
      | true ↦ λ e. let same : last ≡ x = cc in subst (λ (s : Step). c s.by s.undo ≡ true → cond (c x.by x.undo && true) (Some (record { by = x.by; undo = x.undo })) (step_stamp c ss n) ≡ Some (record { by = s.by; undo = s.undo })) (sym same) (λ on. cond-true _ _ _ (and_from (c x.by x.undo) true on refl)) y
      | false ↦ λ e. cond-false _ _ _ (and_right (c x.by x.undo) false refl) ∙ step_newest c ss n last e y
    ]) h

-- an active transaction that made any of the images made the newest

abbrev StandsIn : List Step → UndoAddr → Type 0
StandsIn [] a = ⊥
StandsIn (s ∷ ss) a = (s.undo ≡ a) ⊎ StandsIn ss a

stands_own : (ss : List Step) (w : Writer) (a : UndoAddr) (u : ℕ) → Stands ss w a → w ≡ By u → StandsIn (own u ss) a
stands_own [] w a u h e = absurd h
stands_own (s ∷ ss) w a u h e =
    (elim (is_by s.by u) as (λ v. is_by s.by u ≡ v → StandsIn (cond v (s ∷ own u ss) (own u ss)) a) [
      | true ↦ λ y. elim h [ inl z ↦ inl z.1 | inr z ↦ inr (stands_own ss w a u z e) ]
      | false ↦ λ y. elim h [ inl z ↦ absurd (true≢false (sym (ap (λ x. is_by x u) (z.0 ∙ e) ∙ eq-eqb u u refl) ∙ y)) | inr z ↦ stands_own ss w a u z e ]
    ]) refl

abbrev InOwn : ℕ → List Step → Made → Type 0
InOwn u us m = m.by ≡ By u → StandsIn us m.undo

none_in : (u : ℕ) (ms : List Made) → Every (InOwn u []) ms → has_by u ms ≡ true → ⊥
none_in u [] h e = true≢false (sym e)
none_in u (m ∷ ms) h e = elim (or_cases (is_by m.by u) (has_by u ms) e) [ inl y ↦ h.0 (by_of m.by u y) | inr z ↦ none_in u ms h.1 z ]

in_without : (u : ℕ) (s : Step) (us : List Step) (ms : List Made) → Every (InOwn u (s ∷ us)) ms → Every (InOwn u us) (without s.undo ms)
in_without u s us [] h = tt
in_without u s us (m ∷ ms) h =
    (elim (is_addr m.undo s.undo) as (λ v. is_addr m.undo s.undo ≡ v → Every (InOwn u us) (cond (not v) (m ∷ without s.undo ms) (without s.undo ms))) [
      | true ↦ λ e. in_without u s us ms h.1
      | false ↦ λ e. ((λ by. elim (h.0 by) [ inl y ↦ absurd (true≢false (sym (subst (λ a. is_addr a s.undo ≡ true) y (addr_self s.undo)) ∙ e)) | inr z ↦ z ]), in_without u s us ms h.1)
    ]) refl

pub record TopBy (u : ℕ) (ms : List Made) : Type 0 where
  pub made : Made
  pub rest : List Made
  pub list : ms ≡ made ∷ rest
  pub by_is : made.by ≡ By u

top_by : (u b k : ℕ) (us : List Step) (ms : ℕ → ℕ → List Made) → Every (λ (s : Step). s.by ≡ By u) us → OnTop us ms → has_by u (ms b k) ≡ true → Every (InOwn u us) (ms b k) → TopBy u (ms b k)
top_by u b k [] ms own top h f = absurd (none_in u (ms b k) f h)
top_by u b k (s ∷ us) ms own top h f =
    let below = without s.undo (ms b k) in
    elim (cases_Bool (is_named s.parts b k)) [
      | inl y ↦ let w = head_named s 0 s.parts b k below y in record { made = w.made; rest = below; list = top.0 b k ∙ w.list; by_is = w.by_is ∙ own.0 }
      | inr n ↦
          let same : ms b k ≡ below = top.0 b k ∙ off_named s 0 s.parts b k below n in
          let t = top_by u b k us (λ c l. without s.undo (ms c l)) own.1 top.1 (ap (has_by u) (sym same) ∙ h) (in_without u s us (ms b k) f) in
          record { made = t.made; rest = t.rest; list = same ∙ t.list; by_is = t.by_is }
    ]

all_own : (u : ℕ) (ss : List Step) → Every (λ (s : Step). s.by ≡ By u) (own u ss)
all_own u [] = tt
all_own u (s ∷ ss) = (elim (is_by s.by u) as (λ v. is_by s.by u ≡ v → Every (λ (s : Step). s.by ≡ By u) (cond v (s ∷ own u ss) (own u ss))) [ true ↦ λ e. (by_of s.by u e, all_own u ss) | false ↦ λ e. all_own u ss ]) refl

pub newest_by : (sh : Shape) (R : List Record) (b k u : ℕ) → AreAllowed sh R → is_active R u ≡ true → has_by u (makers R b k) ≡ true → TopBy u (makers R b k)
newest_by sh R b k u h on y =
    let held = (good sh R (whole sh R h).fit).held in
    top_by u b k (own u (standing R)) (makers R) (all_own u (standing R)) (held.top u on) y (every-map _ _ (makers R b k) (λ m x by. stands_own (standing R) m.by m.undo u x by) (held.stand b k))

-- a writer that doesn't count is active

pub record ByActive (R : List Record) (t : ℕ) (w : Writer) : Type 0 where
  pub txn : ℕ
  pub by_is : w ≡ By txn
  pub active : is_active R txn ≡ true
  pub other : txn ≢ t

pub by_active : (R : List Record) (s t : ℕ) (w : Writer) → Settled R s w → counts R s t w ≡ false → ByActive R t w
by_active R s t (By u) h off = record {
  txn = u;
  by_is = refl;
  active = elim h [ inl on ↦ on | inr in' ↦ absurd (true≢false (sym in' ∙ (or_parts (eqb u t) (is_committed_by R s u) off).1)) ];
  other = λ e. true≢false (sym (eq-eqb u t e) ∙ (or_parts (eqb u t) (is_committed_by R s u) off).0);
}
by_active R s t (At m) h off = absurd (true≢false (sym h ∙ off))

newest_settled : (R : List Record) (s : ℕ) (ss : List Step) (n : ℕ) (last : Step) → newest_on ss n ≡ Some last → Every (λ (x : Step). Settled R s x.by) ss → Settled R s last.by
newest_settled R s [] n last e h = absurd (let x : ◌≡◌ {A = Option Step} None (Some last) = e in cc)
newest_settled R s (x ∷ ss) n last e h =
    (elim (eqb x.row n) as (λ v. cond v (Some x) (newest_on ss n) ≡ Some last → Settled R s last.by) [
      | true ↦ λ f. let same : x ≡ last = cc in subst (λ (z : Step). Settled R s z.by) same h.0
      | false ↦ λ f. newest_settled R s ss n last f h.1
    ]) e

same_made : (xs : List Made) (m : Made) (ms : List Made) (d : Made) (ds : List Made) → xs ≡ m ∷ ms → xs ≡ d ∷ ds → m ≡ d
same_made xs m ms d ds e f = let z : ◌≡◌ {A = List Made} (m ∷ ms) (d ∷ ds) = sym e ∙ f in cc

-- the newest step on a row whose newest image in the slot doesn't count doesn't count either
newest_off : (sh : Shape) (R : List Record) (b k s t n : ℕ) (x : List ℕ) (m : Made) (ms : List Made) (last : Step) → AreAllowed sh R → commit_count R ≤ s
    → row_at R b k s t ≡ Some (n, x) → makers R b k ≡ m ∷ ms → counts R s t m.by ≡ false → newest_on (standing R) n ≡ Some last → counts R s t last.by ≡ false
newest_off sh R b k s t n x m ms last h l e lm off nw = elim (cases_Bool (counts R s t last.by)) [
  | inr f ↦ f
  | inl y ↦
      let w = whole sh R h in
      let c : Counted = λ z a. counts R s t z in
      let at : located c (standing R) n ≡ Some (b, k, x) = ((good sh R w.fit).spread c (closed_at sh R s t h l) b k n x).found e in
      let place : place_of last.parts ≡ Some (b, k, x) = sym (located_newest c (standing R) n last nw y) ∙ at in
      let now : row_in (image R b k) ≡ Some (n, x) = now_shown sh R b k n x w.fit (located_newest all (standing R) n last nw refl ∙ place) in
      let made = now_made sh R b k n x h now in
      let one : made.step ≡ last = same_step made.step last (sym made.newest ∙ nw) in
      let top : m ≡ made.made = same_made (makers R b k) m ms made.made made.rest lm made.list in
      absurd (true≢false (sym y ∙ ap (λ (z : Step). counts R s t z.by) (sym one) ∙ ap (counts R s t) made.by_is ∙ ap (λ (z : Made). counts R s t z.by) (sym top) ∙ off))
]
  where
    same_step : (x y : Step) → ◌≡◌ {A = Option Step} (Some x) (Some y) → x ≡ y
    same_step x y e = cc

pub others_hold : OthersHold
others_hold sh R b k s t n x m ms h l on e lm off =
    let w = whole sh R h in
    let c : Counted = λ z a. counts R s t z in
    let at : located c (standing R) n ≡ Some (b, k, x) = ((good sh R w.fit).spread c (closed_at sh R s t h l) b k n x).found e in
    let head = head_step c (standing R) n b k x at in
    let last_off = newest_off sh R b k s t n x m ms head.step h l e lm off head.newest in
    let settled = (ready sh R w.fit).settled s l in
    let v = by_active R s t head.step.by (newest_settled R s (standing R) n head.step head.newest settled) last_off in
    let mine : is_by head.step.by v.txn ≡ true = ap (λ z. is_by z v.txn) v.by_is ∙ eq-eqb v.txn v.txn refl in
    let d : Counted = or_by c v.txn in
    let some : has_by v.txn (makers R b k) ≡ true = elim (cases_Bool (has_by v.txn (makers R b k))) [
      | inl y ↦ y
      | inr f ↦
          let same : seen d R b k ≡ Some (n, x) = ap row_in (none_first c v.txn (image R b k) (makers R b k) f) ∙ e in
          let st = stamped sh R w.fit d (closed_or R s t v.txn (is_active R) (standing R) (closed_at sh R s t h l)) b k n x same in
          let counted : d head.step.by head.step.undo ≡ true = or_right (counts R s t head.step.by) (is_by head.step.by v.txn) mine in
          let other = none_stamp d v.txn (makers R b k) (record { by = head.step.by; undo = head.step.undo }) f (st ∙ step_newest d (standing R) n head.step head.newest counted) in
          absurd (true≢false (sym mine ∙ other))
    ] in
    let top = newest_by sh R b k v.txn h v.active some in
    record { made = m; rest = ms; list = lm; txn = v.txn; by_is = ap (λ (z : Made). z.by) (same_made (makers R b k) m ms top.made top.rest lm top.list) ∙ top.by_is; active = v.active; other = v.other; step = head.step; newest = head.newest; step_by = v.by_is }
