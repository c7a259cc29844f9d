-- A search under way: what was read shows the row nowhere, and of the store it was only looked at.
use Rattle.std.proofs.Common.{◌≡◌, ℕ, ◌+◌, ◌≤◌, List, slice_get, Option, Some, None, MatchOption, refl, sym, ◌∙◌, subst}
use Rattle.std.specs.Prelude.{Result, Ok, Err, IfOk}
use Rattle.disk_model.specs.Crash.{Meaning}
use Rattle.seg_words.specs.Types.{Shape, Rowid, Slot, UndoAddr}
use Rattle.redo_model.specs.Records.{Record}
use Rattle.redo_model.specs.Model.{at_place, data_blocks}
use Rattle.data_places.specs.declared.place.Place.{Place as DataPlace}
use Rattle.data_places.specs.Places.{IsPlace, data_count}
use Rattle.version_read.specs.Walking.{txn_or_none, SeesRow, IsWalk, StepsTo}
use Rattle.store_core.specs.Store.{Held, IsTrue}
use Rattle.store_core.specs.Causes.{HasLooked}
use Rattle.store_core.specs.Undo.{IsWorking, Looks}
use Rattle.store_core.specs.declared.fault.StoreFault.{StoreFault}
use Rattle.store_core.proofs.Lookups.{looked_on, looked_ok, refused_after}
use Rattle.store_core.proofs.UndoLent.{all_looked}
use Rattle.place_laws.specs.Located.{NoneBefore}
use Rattle.row_change.specs.declared.sight.Search.{Search}
use Rattle.row_change.specs.declared.sight.Sight.{Sight}
use Rattle.row_change.specs.Locating.{IsSearch, SightOf, Sees, SeesFor, NoneBelow, FindsAt}
use Rattle.row_change.proofs.Positions.{search_at, none_more, none_at}
use Rattle.row_change.proofs.Sights.{reader_of, sees_row}

-- a call on a store that shows of an image what it shows
pub told_sees : {E : Type 0} (sh : Shape) (R : List Record) (o : ℕ) (q : Search) (p : Rowid) (i : Slot) (r : Result (Option Sight) E) → IsSearch sh R o q → SeesRow R p.dba p.slot q.start (txn_or_none q.own) i → IfOk r (SightOf i p) → IfOk r (Sees R q.own p)
told_sees sh R o q p i (Ok x) h v w = sees_row sh R o q p i x h v w
told_sees sh R o q p i (Err f) h v w = tt

-- the store after a call, for the same search

pub search_on : {D T : Type 0} (meaning : Meaning D) (a b : Held D) (r : Result T StoreFault) (R : List Record) (o : ℕ) (q : Search) → HasLooked {T = T} meaning a b r → IsSearch a.shape R o q → IsSearch b.shape R o q
search_on meaning a b r R o q l h = search_at a.shape b.shape R o q l.loan.shape h

pub still_unspent : {D T : Type 0} (meaning : Meaning D) (a b : Held D) (x : T) → HasLooked {T = T} meaning a b (Ok x) → b.fault ≡ None
still_unspent meaning a b x l = l.cause.kept l.cause.goes_on

pub working : {D : Type 0} (meaning : Meaning D) (s : Held D) (R : List Record) (o : ℕ) (q : Search) → s.fault ≡ None → IsTrue meaning R s → IsSearch s.shape R o q → IsWorking meaning q.shape R s
working meaning s R o q n t h = record { list = t; shape_is = sym h.shape_is; unspent = n }

-- slots of a block

pub record SlotsSought {D : Type 0} (meaning : Meaning D) (start now : Held D) (q : Search) (row b slot : ℕ) : Type 0 where
  pub looked : HasLooked {T = Unit {0}} meaning start now (Ok tt)
  pub none : (R : List Record) (o i : ℕ) → IsTrue meaning R start → IsSearch start.shape R o q → slice_get (data_blocks q.shape R o) i ≡ Some b → NoneBelow R q row b slot

pub slots_next : {D T : Type 0} (meaning : Meaning D) (start mid now : Held D) (q : Search) (row b k : ℕ) (x : T) → SlotsSought meaning start mid q row b k → HasLooked {T = T} meaning mid now (Ok x)
    → ((R : List Record) (o i : ℕ) → IsTrue meaning R mid → IsSearch mid.shape R o q → slice_get (data_blocks q.shape R o) i ≡ Some b → SeesFor R q.own row (at_place b k) None) → SlotsSought meaning start now q row b (k + 1)
slots_next meaning start mid now q row b k x s l says = record {
  looked = looked_on meaning start mid now tt (Ok tt) s.looked (looked_ok meaning mid now x tt l);
  none = λ R o i t h at. none_more R q row b k (s.none R o i t h at) (says R o i (s.looked.stays_true R t) (search_on meaning start mid (Ok tt) R o q s.looked h) at);
}

-- data blocks of a table

pub record PlacesSought {D : Type 0} (meaning : Meaning D) (start now : Held D) (q : Search) (row : ℕ) (next : Option DataPlace) (position : ℕ) : Type 0 where
  pub looked : HasLooked {T = Unit {0}} meaning start now (Ok tt)
  pub place : MatchOption next (data_count q.shape q.segment.extents ≤ position) (λ p. IsPlace q.shape q.segment.extents p position)
  pub none : (R : List Record) (o : ℕ) → IsTrue meaning R start → IsSearch start.shape R o q → NoneBefore q.shape R q.own o row position

pub places_next : {D T : Type 0} (meaning : Meaning D) (start mid now : Held D) (q : Search) (row : ℕ) (here next : Option DataPlace) (position : ℕ) (x : T) → PlacesSought meaning start mid q row here position → HasLooked {T = T} meaning mid now (Ok x)
    → MatchOption next (data_count q.shape q.segment.extents ≤ position + 1) (λ p. IsPlace q.shape q.segment.extents p (position + 1))
    → ((R : List Record) (o : ℕ) → IsTrue meaning R mid → IsSearch mid.shape R o q → FindsAt R q o row position None) → PlacesSought meaning start now q row next (position + 1)
places_next meaning start mid now q row here next position x s l p says = record {
  looked = looked_on meaning start mid now tt (Ok tt) s.looked (looked_ok meaning mid now x tt l);
  place = p;
  none = λ R o t h. none_at R q o row position (s.none R o t h) (says R o (s.looked.stays_true R t) (search_on meaning start mid (Ok tt) R o q s.looked h));
}

-- a walk down from a slot

pub is_walk : (sh : Shape) (R : List Record) (o : ℕ) (q : Search) (p : Rowid) (from : UndoAddr) → IsSearch sh R o q → StepsTo q.shape R p.dba p.slot q.start q.own from → IsWalk q.shape R p.dba p.slot q.start q.own q.shape.undo from
is_walk sh R o q p from h s = record { reader = reader_of sh R o q h; undo_blocks = refl; steps = s }

pub walked : {D T : Type 0} (meaning : Meaning D) (a b : Held D) (x : T) → a.fault ≡ None → Looks meaning a b → HasLooked {T = T} meaning a b (Ok x)
walked meaning a b x n l = looked_ok meaning a b tt x (all_looked meaning a b n l)

pub walk_refused : {D A T : Type 0} (meaning : Meaning D) (a b c : Held D) (f : StoreFault) → a.fault ≡ None → Looks meaning a b → HasLooked {T = A} meaning b c (Err f) → HasLooked {T = T} meaning a c (Err f)
walk_refused meaning a b c f n l h = refused_after meaning a b c tt f (all_looked meaning a b n l) h

pub works : {D : Type 0} (meaning : Meaning D) (a b : Held D) (R : List Record) (o : ℕ) (q : Search) → HasLooked {T = Unit {0}} meaning a b (Ok tt) → IsTrue meaning R a → IsSearch a.shape R o q → IsWorking meaning q.shape R b
works meaning a b R o q l t h = record { list = l.stays_true R t; shape_is = l.loan.shape ∙ sym h.shape_is; unspent = still_unspent meaning a b tt l }

pub looked_search : {D : Type 0} (meaning : Meaning D) (a b : Held D) (R : List Record) (o : ℕ) (q : Search) → HasLooked {T = Unit {0}} meaning a b (Ok tt) → IsSearch a.shape R o q → IsSearch b.shape R o q
looked_search meaning a b R o q l h = search_on meaning a b (Ok tt) R o q l h

-- of the place that is next, whether there is one
pub place_now : (q : Search) (next is : Option DataPlace) (position : ℕ) → next ≡ is → MatchOption next (data_count q.shape q.segment.extents ≤ position) (λ p. IsPlace q.shape q.segment.extents p position)
    → MatchOption is (data_count q.shape q.segment.extents ≤ position) (λ p. IsPlace q.shape q.segment.extents p position)
place_now q next is position e h = subst (λ (o : Option DataPlace). MatchOption o (data_count q.shape q.segment.extents ≤ position) (λ p. IsPlace q.shape q.segment.extents p position)) e h
