-- What follows from an update of a row that was looked at.
use Rattle.std.proofs.Common.{◌≡◌, ℕ, List, length, Option, Some, None, refl, sym, ◌∙◌, ap, ap₂, subst}
use Rattle.seg_words.specs.Types.{Shape, Kind, Empty, Row, Head, Body, Rowid}
use Rattle.redo_model.specs.Records.{Record}
use Rattle.redo_model.specs.Model.{image, IsLawful, IsRowSize}
use Rattle.change_laws.specs.Types.{Stand, Path, stand_of, stand_at, holder_of, Change, change_by, by_change, by_lack, first_lacking, path_of, updated_blocks, update_answer, IsOwn, WasFound, MayBeTarget}
use Rattle.change_laws.proofs.MadeLaw.{updates_are_made}
use Rattle.row_change.specs.declared.place.Place.{Place}
use Rattle.row_change.specs.declared.looking.Front.{Front}
use Rattle.row_change.specs.declared.updating.Updating.{Updating}
use Rattle.row_change.specs.Fitting.{AreThere}
use Rattle.row_change.specs.Looking.{IsFreeAt, front_of}
use Rattle.row_change.specs.Planning.{CanBeMade}
use Rattle.row_change.specs.Standing.{AreAtHome, told_stand}
use Rattle.row_change.specs.Updating.{MayChange, Updates, blocks_for, change_now}
use Rattle.row_change.proofs.Decided.{row_of, homes}
use Rattle.row_change.proofs.Fitted.{all_there, blocks_same}
use Rattle.row_change.proofs.Looked.{block_still, table_still}

-- by the way that it goes

pub goes_so : (sh : Shape) (R : List Record) (own : Option ℕ) (u : Updating) (w : Path) → w ≡ path_of R own (told_stand u.stand) (length u.bytes.now)
    → by_lack R (first_lacking R own (blocks_for (told_stand u.stand) w)) (by_change sh R (length u.bytes.now) (change_now R u w)) ≡ by_lack R (first_lacking R own (updated_blocks R own (told_stand u.stand) (length u.bytes.now))) (by_change sh R (length u.bytes.now) (change_now R u (path_of R own (told_stand u.stand) (length u.bytes.now))))
goes_so sh R own u w e =
    let x = told_stand u.stand in
    let n = length u.bytes.now in
    ap (λ (z : Path). by_lack R (first_lacking R own (blocks_for x z)) (by_change sh R n (change_now R u z))) e
    ∙ ap (λ (bs : List ℕ). by_lack R (first_lacking R own bs) (by_change sh R n (change_now R u (path_of R own x n)))) (blocks_same R own x n)

pub may_so : (sh : Shape) (R : List Record) (own : Option ℕ) (n : ℕ) (p : Place) (u : Updating) (w : Path) → w ≡ path_of R own (told_stand u.stand) (length u.bytes.now) → Updates sh R own n p u → first_lacking R own (blocks_for (told_stand u.stand) w) ≡ None → MayChange sh R own u w
may_so sh R own n p u w e d z =
    let x = told_stand u.stand in
    let m = length u.bytes.now in
    subst (MayChange sh R own u) (sym e) (d.can (ap (first_lacking R own) (sym (blocks_same R own x m)) ∙ ap (λ (y : Path). first_lacking R own (blocks_for x y)) (sym e) ∙ z))

-- a row that stands free

record UpdatesBy (sh : Shape) (R : List Record) (own : Option ℕ) (o n : ℕ) (p : Place) (row : ℕ) (x : Stand) (bytes : List ℕ) (to : Option ℕ) : Type 0 where
  home : AreAtHome sh R o x
  there : AreThere R x
  holder : holder_of x ≡ p.at
  target : MayBeTarget sh R own o x (length bytes) to
  can : first_lacking R own (updated_blocks R own x (length bytes)) ≡ None → (c : Change) → change_by R o row x bytes to (path_of R own x (length bytes)) ≡ Some c → CanBeMade sh R own c
  answer : by_lack R (first_lacking R own (updated_blocks R own x (length bytes))) (by_change sh R (length bytes) (change_by R o row x bytes to (path_of R own x (length bytes)))) ≡ update_answer sh R own o n p.at p.start bytes to

holds : (p : Rowid) (kind : Kind) (link : Option Rowid) → holder_of (stand_of kind link p) ≡ p
holds p Empty link = refl
holds p Row link = refl
holds p Head link = refl
holds p Body None = refl
holds p Body (Some head) = refl

updates_there : (sh : Shape) (R : List Record) (own : Option ℕ) (o n : ℕ) (p : Place) (f : Front) (bytes : List ℕ) (to : Option ℕ) → IsLawful sh R → IsOwn R own → WasFound sh R own o n p.at p.born p.undo p.start → IsFreeAt sh R own o n p f → IsRowSize bytes → MayBeTarget sh R own o (stand_at R p.at) (length bytes) to
    → UpdatesBy sh R own o n p n (stand_at R p.at) bytes to
updates_there sh R own o n p f bytes to l on w i size target =
    let i' = image R p.at.dba p.at.slot in
    let x = stand_at R p.at in
    let m = length bytes in
    let change = change_by R o n x bytes to (path_of R own x m) in
    let is = i.answer (updated_blocks R own x m) m change in
    record {
      home = homes sh R o n p.at i'.kind i'.link l.allowed (table_still sh R own o n p l.allowed w) (block_still sh R own o n p l.allowed on w i.born) i.free.write.stands;
      there = all_there R n x i.free.write.stands;
      holder = holds p.at i'.kind i'.link;
      target = target;
      can = λ e c made so. updates_are_made sh R own o n p.at p.born p.undo p.start bytes to c l on w size target (is ∙ ap (λ (y : Option ℕ). by_lack R y (by_change sh R m change)) e ∙ ap (by_change sh R m) made ∙ so);
      answer = sym is;
    }

pub updates_at : (sh : Shape) (R : List Record) (own : Option ℕ) (n : ℕ) (p : Place) (f : Front) (u : Updating) → IsLawful sh R → IsOwn R own → WasFound sh R own u.obj n p.at p.born p.undo p.start → IsFreeAt sh R own u.obj n p f → IsRowSize u.bytes.now → MayBeTarget sh R own u.obj (stand_at R p.at) (length u.bytes.now) u.to
    → u.row ≡ f.row → u.at ≡ p.at → u.front ≡ f → told_stand u.stand ≡ stand_of f.kind f.link p.at → Updates sh R own n p u
updates_at sh R own n p f u l on w i size target row at front stand =
    let i' = image R p.at.dba p.at.slot in
    let here : told_stand u.stand ≡ stand_at R p.at = stand ∙ ap₂ (λ (k : Kind) (k' : Option Rowid). stand_of k k' p.at) (ap (λ (y : Front). y.kind) i.front) (ap (λ (y : Front). y.link) i.front) in
    let number : u.row ≡ n = row ∙ ap (λ (y : Front). y.row) i.front ∙ row_of R n p.at i'.kind i'.link i.free.write.stands in
    let d = subst (λ (y : Stand). UpdatesBy sh R own u.obj n p u.row y u.bytes.now u.to) (sym here) (subst (λ m. UpdatesBy sh R own u.obj n p m (stand_at R p.at) u.bytes.now u.to) (sym number) (updates_there sh R own u.obj n p f u.bytes.now u.to l on w i size target)) in
    record {
      is = record {
        table = table_still sh R own u.obj n p l.allowed w;
        home = d.home;
        there = d.there;
        holder = d.holder ∙ sym at;
        front = front ∙ i.front ∙ ap (λ (q : Rowid). front_of (image R q.dba q.slot)) (sym at);
        target = d.target;
      };
      can = d.can;
      answer = d.answer;
    }
