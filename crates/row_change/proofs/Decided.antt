-- What follows from a decision on a row that was looked at, and what a refusal answers.
use Rattle.std.proofs.Common.{◌≡◌, ℕ, List, Option, Some, None, sym, ◌∙◌, ap, ap₂, subst, arith}
use Rattle.std.specs.Prelude.{Err}
use Rattle.disk_model.specs.Crash.{Meaning}
use Rattle.seg_words.specs.Types.{Shape, Kind, Empty, Row, Head, Body, Rowid}
use Rattle.redo_model.specs.Records.{Record}
use Rattle.redo_model.specs.Model.{image, IsTable, IsRowBlock, IsLawful, AreAllowed}
use Rattle.store_core.specs.Store.{Held, IsTrue}
use Rattle.change_laws.specs.Types.{Stand, stand_of, stand_at, StandsAt, Change, change_size, delete_of, blocks_at, first_lacking, spot_for, by_spot, by_lack, Answer, RowChanged, RowBusy, EntriesTaken, BlockNeeded, delete_answer, IsOwn, WasFound}
use Rattle.change_laws.proofs.FindLaw.{heads_are_at_home}
use Rattle.change_laws.proofs.MadeLaw.{deletes_are_made}
use Rattle.row_change.specs.declared.place.Place.{Place}
use Rattle.row_change.specs.declared.looking.Front.{Front}
use Rattle.row_change.specs.declared.answer.ChangeFault.TheVariants as faults
use Rattle.row_change.specs.Acting.{MayAct}
use Rattle.row_change.specs.Answering.{Answers}
use Rattle.row_change.specs.Lacking.{names_at}
use Rattle.row_change.specs.Looking.{IsFreeAt}
use Rattle.row_change.specs.Planning.{CanBeMade}
use Rattle.row_change.specs.Standing.{AreAtHome}
use Rattle.row_change.proofs.Looked.{block_still, table_still}
use Rattle.row_change.proofs.Made.{stays}

-- ---- refusals

pub refused_changed : {D : Type 0} (meaning : Meaning D) (a : Held D) (R : List Record) (who : ℕ) (own : Option ℕ) (answer : Answer) (s : ℕ) → IsTrue meaning R a → answer ≡ RowChanged s → Answers meaning R who own answer a a (Err (faults.Changed s))
refused_changed meaning a R who own answer s t e = record { is = record { answer_is = e; stands = stays meaning a R t }; stable = omega arith }

pub refused_busy : {D : Type 0} (meaning : Meaning D) (a : Held D) (R : List Record) (who : ℕ) (own : Option ℕ) (answer : Answer) (u : ℕ) → IsTrue meaning R a → answer ≡ RowBusy u → Answers meaning R who own answer a a (Err (faults.Busy u))
refused_busy meaning a R who own answer u t e = record { is = record { answer_is = e; stands = stays meaning a R t }; stable = omega arith }

pub refused_entries : {D : Type 0} (meaning : Meaning D) (a : Held D) (R : List Record) (who : ℕ) (own : Option ℕ) (answer : Answer) (ts : List ℕ) → IsTrue meaning R a → answer ≡ EntriesTaken ts → Answers meaning R who own answer a a (Err (faults.NoSlot ts))
refused_entries meaning a R who own answer ts t e = record { is = record { answer_is = e; stands = stays meaning a R t }; stable = omega arith }

pub refused_block : {D : Type 0} (meaning : Meaning D) (a : Held D) (R : List Record) (who : ℕ) (own : Option ℕ) (answer : Answer) (len : ℕ) → IsTrue meaning R a → answer ≡ BlockNeeded len → Answers meaning R who own answer a a (Err (faults.NeedsBlock len))
refused_block meaning a R who own answer len t e = record { is = record { answer_is = e; stands = stays meaning a R t }; stable = omega arith }

-- whom the entries of the first block name that has none
pub taken : (R : List Record) (l : Option ℕ) (a : Answer) (ts : List ℕ) → ◌≡◌ {A = Option (List ℕ)} (Some ts) (names_at R l) → by_lack R l a ≡ EntriesTaken ts
taken R None a ts e = absurd (let z : ◌≡◌ {A = Option (List ℕ)} (Some ts) None = e in cc)
taken R (Some b) a ts e = ap (λ (us : List ℕ). EntriesTaken us) (inside e)
  where
    inside : {us vs : List ℕ} → ◌≡◌ {A = Option (List ℕ)} (Some us) (Some vs) → vs ≡ us
    inside q = cc

-- ---- where the row stands

pub own_of : (R : List Record) (who : ℕ) (own : Option ℕ) → MayAct R who own → IsOwn R own
own_of R who None m = tt
own_of R who (Some t) m = m

pub row_of : (R : List Record) (n : ℕ) (p : Rowid) (kind : Kind) (link : Option Rowid) → StandsAt R n (stand_of kind link p) → (image R p.dba p.slot).row ≡ n
row_of R n p Empty link s = s.row
row_of R n p Row link s = s.row
row_of R n p Head link s = s.row
row_of R n p Body None s = s.row
row_of R n p Body (Some head) s = s.body_row

pub homes : (sh : Shape) (R : List Record) (o n : ℕ) (p : Rowid) (kind : Kind) (link : Option Rowid) → AreAllowed sh R → IsTable R o → IsRowBlock sh R o p.dba → StandsAt R n (stand_of kind link p) → AreAtHome sh R o (stand_of kind link p)
homes sh R o n p Empty link h t b s = b
homes sh R o n p Row link h t b s = b
homes sh R o n p Head link h t b s = b
homes sh R o n p Body None h t b s = b
homes sh R o n p Body (Some head) h t b s = (heads_are_at_home sh R o n head p h t b s, b)

-- ---- a row that stands free, and is to be deleted

abbrev spot_answer : Shape → List Record → Change → Answer
spot_answer sh R k = by_spot k (spot_for sh R (change_size R k))

pub record Deletes (sh : Shape) (R : List Record) (own : Option ℕ) (o n : ℕ) (p : Place) (row : ℕ) (x : Stand) : Type 0 where
  pub home : AreAtHome sh R o x
  pub can : first_lacking R own (blocks_at x) ≡ None → CanBeMade sh R own (delete_of o row x)
  pub answer : by_lack R (first_lacking R own (blocks_at x)) (by_spot (delete_of o row x) (spot_for sh R (change_size R (delete_of o row x)))) ≡ delete_answer sh R own o n p.at p.start

deletes_there : (sh : Shape) (R : List Record) (own : Option ℕ) (o n : ℕ) (p : Place) (f : Front) → IsLawful sh R → IsOwn R own → WasFound sh R own o n p.at p.born p.undo p.start → IsFreeAt sh R own o n p f → Deletes sh R own o n p n (stand_at R p.at)
deletes_there sh R own o n p f l on w i =
    let i' = image R p.at.dba p.at.slot in
    let k = delete_of o n (stand_at R p.at) in
    let bs = blocks_at (stand_at R p.at) in
    let is = i.answer bs 0 (Some k) in
    record {
      home = homes sh R o n p.at i'.kind i'.link l.allowed (table_still sh R own o n p l.allowed w) (block_still sh R own o n p l.allowed on w i.born) i.free.write.stands;
      can = λ e made. deletes_are_made sh R own o n p.at p.born p.undo p.start k l on w (is ∙ ap (λ (x : Option ℕ). by_lack R x (spot_answer sh R k)) e ∙ made);
      answer = sym is;
    }

pub deletes_at : (sh : Shape) (R : List Record) (own : Option ℕ) (o n : ℕ) (p : Place) (f : Front) (row : ℕ) (x : Stand) → IsLawful sh R → IsOwn R own → WasFound sh R own o n p.at p.born p.undo p.start → IsFreeAt sh R own o n p f → row ≡ f.row → x ≡ stand_of f.kind f.link p.at
    → Deletes sh R own o n p row x
deletes_at sh R own o n p f row x l on w i e s =
    let i' = image R p.at.dba p.at.slot in
    let here : x ≡ stand_at R p.at = s ∙ ap₂ (λ (k : Kind) (k' : Option Rowid). stand_of k k' p.at) (ap (λ (y : Front). y.kind) i.front) (ap (λ (y : Front). y.link) i.front) in
    let number : row ≡ n = e ∙ ap (λ (y : Front). y.row) i.front ∙ row_of R n p.at i'.kind i'.link i.free.write.stands in
    subst (λ (y : Stand). Deletes sh R own o n p row y) (sym here) (subst (λ m. Deletes sh R own o n p m (stand_at R p.at)) (sym number) (deletes_there sh R own o n p f l on w i))
