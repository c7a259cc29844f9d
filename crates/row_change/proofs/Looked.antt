-- What a place that was found earlier tells, whether or not its row was changed since.
use Rattle.std.proofs.Common.{◌≡◌, ℕ, Bool, true, false, List, length, get_or, Option, Some, sym, ◌∙◌, ap, subst, arith, inl, inr}
use Rattle.std.specs.Prelude.{IfOk, Result, Ok, Err}
use Rattle.seg_words.proofs.Lemmas.{cases_Bool, cond-true}
use Rattle.seg_words.specs.Types.{Shape, Slot, Block, new_slot, is_shape}
use Rattle.redo_model.specs.Records.{Record}
use Rattle.redo_model.specs.Model.{Effect, commit_count, image, Extends, IsTable, IsRowBlock, IsLawful, number_or_zero, AreAllowed}
use Rattle.redo_model.specs.Lists.{same, more}
use Rattle.redo_model.proofs.Bridge.{image_is}
use Rattle.redo_laws.specs.Stays.{Later, one_later, not_later, IsNotOf}
use Rattle.space_laws.proofs.IncarnationsLaw.{rising}
use Rattle.space_laws.proofs.TablesLaw.{tables_stay}
use Rattle.scan_laws.specs.Changes.{changed_above}
use Rattle.scan_laws.specs.Staying.{is_released_since}
use Rattle.scan_laws.proofs.StayingLaw.{row_blocks_stay_since, incarnations_tell_releases}
use Rattle.row_laws.proofs.PlaceLaw.{places_tell}
use Rattle.store_laws.specs.Kinds.{HasRowPage}
use Rattle.store_laws.proofs.KindsLaw.{rows_stand}
use Rattle.page_set.specs.declared.page.Page.{Page}
use Rattle.page_set.specs.Folded.{page_of}
use Rattle.change_laws.specs.Types.{RowChanged, IsOwn, IsBornAt, WasFound}
use Rattle.change_laws.proofs.LookLaw.{open_of, places_show, released_are_changed}
use Rattle.change_laws.proofs.AnswerLaw.{places_answer}
use Rattle.row_change.specs.declared.place.Place.{Place}
use Rattle.row_change.specs.declared.looking.Front.{Front}
use Rattle.row_change.specs.declared.looking.Look.{Look}
use Rattle.row_change.specs.declared.looking.Look.TheVariants.{Changed, Busy, Free}
use Rattle.row_change.specs.declared.sight.Search.{Search}
use Rattle.row_change.specs.Locating.{IsSearchFor}
use Rattle.row_change.specs.Looking.{Belongs, SeesOther, Keeps, IsStill, IsThere, front_of, front_in, FrontTells, NotTold, LookMeans}

-- ---- since the place was found

later_extends : (P : Effect → Type 0) (Q R : List Record) → Later P Q R → Extends Q R
later_extends P Q R not_later = same
later_extends P Q R (one_later r l p) = more r (later_extends P Q _ l)

abbrev Found : Shape → List Record → Option ℕ → ℕ → ℕ → Place → Type 0
Found sh R own o n p = WasFound sh R own o n p.at p.born p.undo p.start

since : (sh : Shape) (R : List Record) (own : Option ℕ) (o n : ℕ) (p : Place) → (f : Found sh R own o n p) → Extends f.list R
since sh R own o n p f = later_extends (λ e. IsNotOf e (number_or_zero own)) f.list R f.later

pub table_still : (sh : Shape) (R : List Record) (own : Option ℕ) (o n : ℕ) (p : Place) → AreAllowed sh R → Found sh R own o n p → IsTable R o
table_still sh R own o n p h f = (tables_stay sh f.list R o h (since sh R own o n p f) f.table).there

pub block_still : (sh : Shape) (R : List Record) (own : Option ℕ) (o n : ℕ) (p : Place) → AreAllowed sh R → IsOwn R own → Found sh R own o n p → IsBornAt sh R o p.at.dba p.born → IsRowBlock sh R o p.at.dba
block_still sh R own o n p h on f b = (places_show sh R own o n p.at p.born p.undo p.start h on f b).here

not_released : (sh : Shape) (R : List Record) (own : Option ℕ) (o n : ℕ) (p : Place) → AreAllowed sh R → (f : Found sh R own o n p) → IsBornAt sh R o p.at.dba p.born → is_released_since sh (length f.list) R o p.at.dba ≡ false
not_released sh R own o n p h f i =
    let l = (rising f.list o).most f.born_then.index f.born_then.extent f.born_then.at in
    let a = f.born_then.born_is in
    let b = i.born_is in
    incarnations_tell_releases sh f.list R o p.at.dba i.index i.extent h (since sh R own o n p f) f.table i.at i.has (omega (arith, l, a, b))

-- another version is seen in the same block: something changed the row
pub other_changed : (sh : Shape) (R : List Record) (own : Option ℕ) (o n : ℕ) (p : Place) → AreAllowed sh R → IsOwn R own → Found sh R own o n p → IsBornAt sh R o p.at.dba p.born → SeesOther R own p.at p.undo → changed_above R p.start n ≡ true
other_changed sh R own o n p h on f b other = elim (cases_Bool (changed_above R p.start n)) [
  | inl y ↦ y
  | inr c ↦
      let s = row_blocks_stay_since sh f.list R o p.at.dba h (since sh R own o n p f) f.table f.here (not_released sh R own o n p h f b) in
      let tells = places_tell sh f.list R p.at.dba p.at.slot (number_or_zero own) n f.bytes h f.open_then (open_of R own on) (s.quiet (number_or_zero own) f.later) f.row in
      let none : changed_above R (commit_count f.list) n ≡ false = ap (λ m. changed_above R m n) (sym f.start_is) ∙ c in
      absurd (other n f.bytes (tells.row none) (tells.same none ∙ f.undo_is))
]

-- and so in one that the table lost
pub gone_changed : (sh : Shape) (R : List Record) (own : Option ℕ) (o n : ℕ) (p : Place) → AreAllowed sh R → IsOwn R own → Found sh R own o n p → Belongs sh R o p.at.dba p.born false → IsThere sh R own o n p false
gone_changed sh R own o n p h on f b = (released_are_changed sh R own o n p.at p.born p.undo p.start h on f b).changed

pub kept_there : (sh : Shape) (R : List Record) (own : Option ℕ) (o n : ℕ) (p : Place) (v : Bool) → AreAllowed sh R → IsOwn R own → Found sh R own o n p → Belongs sh R o p.at.dba p.born true → Keeps R own p.at p.undo v → IsThere sh R own o n p v
kept_there sh R own o n p true h on f b k = record { born = b; kept = k }
kept_there sh R own o n p false h on f b k = other_changed sh R own o n p h on f b k

pub there_told : {E : Type 0} (sh : Shape) (R : List Record) (own : Option ℕ) (o n : ℕ) (p : Place) (r : Result Bool E) → AreAllowed sh R → IsOwn R own → Found sh R own o n p → Belongs sh R o p.at.dba p.born true → IfOk r (Keeps R own p.at p.undo) → IfOk r (IsThere sh R own o n p)
there_told sh R own o n p (Ok v) h on f b k = kept_there sh R own o n p v h on f b k
there_told sh R own o n p (Err e) h on f b k = tt

-- by a search

pub found_by : (sh : Shape) (R : List Record) (own : Option ℕ) (o n : ℕ) (q : Search) (p : Place) → IsSearchFor sh R o own q → Found sh R own o n p → Found q.shape R q.own o n p
found_by sh R own o n q p s f = subst (λ (z : Shape). Found z R q.own o n p) (sym s.search.shape_is) (subst (λ (z : Option ℕ). Found sh R z o n p) (sym s.own_is) f)

pub there_for : (sh : Shape) (R : List Record) (own : Option ℕ) (o n : ℕ) (q : Search) (p : Place) (v : Bool) → IsSearchFor sh R o own q → IsThere q.shape R q.own o n p v → IsThere sh R own o n p v
there_for sh R own o n q p v s t = subst (λ (z : Shape). IsThere z R own o n p v) s.search.shape_is (subst (λ (z : Option ℕ). IsThere q.shape R z o n p v) s.own_is t)

-- ---- the newest image

front_of_page : (sh : Shape) (R : List Record) (o b k : ℕ) → is_shape sh ≡ true → IsLawful sh R → IsRowBlock sh R o b → front_in k (page_of sh R b) ≡ Some (front_of (image R b k))
front_of_page sh R o b k s h x =
    let p : HasRowPage sh R b = rows_stand sh R o b s h x in
    ap (λ (y : Page). front_in k y) p.page
    ∙ ap (λ (y : Block). some (front_of (get_or y.slots k new_slot))) p.holds.block
    ∙ ap (λ (y : Slot). some (front_of y)) (image_is R b k)
  where
    some : Front → Option Front
    some y = Some y

pub front_given : (sh : Shape) (R : List Record) (own : Option ℕ) (o n : ℕ) (p : Place) → is_shape sh ≡ true → IsLawful sh R → IsOwn R own → Found sh R own o n p → IsStill sh R own o n p → front_in p.at.slot (page_of sh R p.at.dba) ≡ Some (front_of (image R p.at.dba p.at.slot))
front_given sh R own o n p s l on f i = front_of_page sh R o p.at.dba p.at.slot s l (block_still sh R own o n p l.allowed on f i.born)

same_front : (x y : Front) → ◌≡◌ {A = Option Front} (Some x) (Some y) → x ≡ y
same_front x y e = cc

front_is : (sh : Shape) (R : List Record) (own : Option ℕ) (o n : ℕ) (p : Place) (x : Front) → is_shape sh ≡ true → IsLawful sh R → IsOwn R own → Found sh R own o n p → IsStill sh R own o n p → front_in p.at.slot (page_of sh R p.at.dba) ≡ Some x → x ≡ front_of (image R p.at.dba p.at.slot)
front_is sh R own o n p x s l on f i e = same_front x _ (sym e ∙ front_given sh R own o n p s l on f i)

-- what it tells

pub front_means : (sh : Shape) (R : List Record) (own : Option ℕ) (o n : ℕ) (p : Place) (x : Front) (look : Look) → is_shape sh ≡ true → IsLawful sh R → IsOwn R own → Found sh R own o n p → IsStill sh R own o n p → front_in p.at.slot (page_of sh R p.at.dba) ≡ Some x → FrontTells x p.undo look → LookMeans sh R own o n p look
front_means sh R own o n p x (Changed s) w l on f i e t = absurd t
front_means sh R own o n p x (Busy u) w l on f i e t = λ bs len change.
    let is = front_is sh R own o n p x w l on f i e in
    (places_answer sh R own o n p.at p.born p.undo p.start bs len change l.allowed on f).busy i.born i.kept (λ z. t.0 (ap (λ (y : Front). y.undo) is ∙ z)) u (sym (ap (λ (y : Front). y.writer) is) ∙ t.1)
front_means sh R own o n p x (Free y) w l on f i e t =
    let is = front_is sh R own o n p x w l on f i e in
    let undo : (image R p.at.dba p.at.slot).undo ≡ Some p.undo = sym (ap (λ (z : Front). z.undo) is) ∙ t.1 in
    record {
      born = i.born;
      front = t.0 ∙ is;
      free = (places_show sh R own o n p.at p.born p.undo p.start l.allowed on f i.born).free i.kept undo;
      answer = λ bs len change. (places_answer sh R own o n p.at p.born p.undo p.start bs len change l.allowed on f).free i.born i.kept undo;
    }

-- it always tells something
pub front_told : (sh : Shape) (R : List Record) (own : Option ℕ) (o n : ℕ) (p : Place) (x : Front) → is_shape sh ≡ true → IsLawful sh R → IsOwn R own → Found sh R own o n p → IsStill sh R own o n p → front_in p.at.slot (page_of sh R p.at.dba) ≡ Some x → NotTold x p.undo → ⊥
front_told sh R own o n p x w l on f i e t =
    let is = front_is sh R own o n p x w l on f i e in
    let busy = (places_show sh R own o n p.at p.born p.undo p.start l.allowed on f i.born).busy i.kept (λ z. t.other (ap (λ (y : Front). y.undo) is ∙ z)) in
    t.no_txn busy.txn (ap (λ (y : Front). y.writer) is ∙ busy.writer)

pub changed_means : (sh : Shape) (R : List Record) (own : Option ℕ) (o n : ℕ) (p : Place) (s : ℕ) → s ≡ commit_count R → IsThere sh R own o n p false → LookMeans sh R own o n p (Changed s)
changed_means sh R own o n p s e y = λ bs len change. cond-true _ _ _ y ∙ ap (λ m. RowChanged m) (sym e)
