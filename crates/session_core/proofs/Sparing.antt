-- An event that adds no record, or none that releases an extent, marks no open scan.
use Rattle.std.proofs.Common.{◌≡◌, ℕ, suc, ◌≤◌, List, ◌∷◌, length, Option, Some, None, sym, ◌∙◌, ap, subst, arith, le_refl}
use Rattle.std.specs.Prelude.{Result}
use Rattle.seg_words.specs.Types.{Shape}
use Rattle.disk_model.specs.Crash.{Meaning}
use Rattle.redo_record.specs.declared.record.Record.TheVariants as made
use Rattle.redo_model.specs.Records.{Record, MoveRecord, ReuseRecord}
use Rattle.script_text.specs.declared.statement.Statement.{Statement}
use Rattle.history_model.specs.Released as released
use Rattle.history_model.specs.Released.{first_gone, or_else}
use Rattle.history_model.specs.Spans.{Span}
use Rattle.history_laws.proofs.Marks.{first_more, none_since}
use Rattle.history_laws.proofs.Owned.{same_some}
use Rattle.shrink_laws.specs.declared.skip.Skip.{Skip}
use Rattle.shrink_laws.specs.Cursor.{StepMoves}
use Rattle.shrink_move.specs.declared.next.Next.{Next}
use Rattle.shrink_move.specs.declared.next.Next.TheVariants.{Bottom, Skips, NoFit, ToBody, ToBlock}
use Rattle.shrink_move.specs.Nexts.{NextIs}
use Rattle.shrink_move.specs.Stepping.{step_list}
use Rattle.shrink_move.proofs.FollowLaw.{steps_follow}
use Rattle.store_core.specs.Store.{Held}
use Rattle.store_core.specs.declared.fault.StoreFault.{StoreFault}
use Rattle.scan_table.specs.declared.scan.OpenScan.{OpenScan}
use Rattle.session_core.specs.declared.turned.Acted.{Acted}
use Rattle.session_core.specs.Marks.{AreMarked, HasActedMarking}
use Rattle.session_core.proofs.Marking.{unmarked, unreleased}

-- the answer is this one
pub marking_as : {D : Type 0} (meaning : Meaning D) (x : Span) (st : Option Statement) (scans : List (Option OpenScan)) (a b : Held D) (z y : Result Acted StoreFault) → z ≡ y → HasActedMarking meaning x st scans scans a b y → HasActedMarking meaning x st scans scans a b z
marking_as meaning x st scans a b z y e h = subst (λ (w : Result Acted StoreFault). HasActedMarking meaning x st scans scans a b w) (sym e) h

-- ---- a step of a shrink

reused_none : (sh : Shape) (o : ℕ) (unread : List ℕ) (Q between : List Record) (reuse : Option ReuseRecord) → between ≡ elim reuse [ None ↦ Q | Some q ↦ made.Reuse q ∷ Q ] → first_gone sh o unread (length Q) between ≡ None
reused_none sh o unread Q between None e = ap (λ (L : List Record). first_gone sh o unread (length Q) L) e ∙ none_since sh o unread Q
reused_none sh o unread Q between (Some q) e =
    ap (λ (L : List Record). first_gone sh o unread (length Q) L) e
    ∙ (first_more sh o unread (length Q) Q (made.Reuse q) (le_refl (length Q)) ∙ ap (λ (g : Option released.Gone). or_else g None) (none_since sh o unread Q))

reused_longer : (Q between : List Record) (reuse : Option ReuseRecord) → between ≡ elim reuse [ None ↦ Q | Some q ↦ made.Reuse q ∷ Q ] → length Q ≤ length between
reused_longer Q between None e = let l = ap (λ (L : List Record). length L) e in omega (arith, l)
reused_longer Q between (Some q) e = let l : length between ≡ suc (length Q) = ap (λ (L : List Record). length L) e in omega (arith, l)

moved_none : (sh z : Shape) (unread : List ℕ) (t : ℕ) (Q R : List Record) (o : ℕ) (skips : List Skip) (cursor place d k : ℕ) → StepMoves sh Q R o skips cursor place d k → first_gone z t unread (length Q) R ≡ None
moved_none sh z unread t Q R o skips cursor place d k m =
    ap (λ (L : List Record). first_gone z t unread (length Q) L) m.adds
    ∙ (first_more z t unread (length Q) m.between (made.Move m.move) (reused_longer Q m.between m.reuse m.may)
    ∙ ap (λ (g : Option released.Gone). or_else g None) (reused_none z t unread Q m.between m.reuse m.may))

moved_marks : (sh : Shape) (Q R : List Record) (o : ℕ) (skips : List Skip) (cursor at d k : ℕ) (scans : List (Option OpenScan)) → StepMoves sh Q R o skips cursor at d k → AreMarked (length Q) R scans scans
moved_marks sh Q R o skips cursor at d k scans m = unreleased (length Q) R scans (λ z t unread. moved_none sh z unread t Q R o skips cursor at d k m)

still_marks : (Q R : List Record) (scans : List (Option OpenScan)) → ◌≡◌ {A = Option (List Record)} (Some Q) (Some R) → AreMarked (length Q) R scans scans
still_marks Q R scans e = subst (λ (L : List Record). AreMarked (length Q) L scans scans) (same_some Q R e) (unmarked Q scans)

pub step_marks : (sh : Shape) (Q R : List Record) (o : ℕ) (skips : List Skip) (cursor : ℕ) (n : Next) (scans : List (Option OpenScan)) → NextIs sh Q o skips cursor n → step_list sh Q o n ≡ Some R → AreMarked (length Q) R scans scans
step_marks sh Q R o skips cursor Bottom scans h e = still_marks Q R scans e
step_marks sh Q R o skips cursor (Skips c t) scans h e = still_marks Q R scans e
step_marks sh Q R o skips cursor (NoFit c) scans h e = still_marks Q R scans e
step_marks sh Q R o skips cursor (ToBody c body) scans h e = moved_marks sh Q R o skips cursor c.place c.at.dba c.at.slot scans (steps_follow sh Q R o skips cursor (ToBody c body) h e)
step_marks sh Q R o skips cursor (ToBlock c target) scans h e = moved_marks sh Q R o skips cursor c.place c.at.dba c.at.slot scans (steps_follow sh Q R o skips cursor (ToBlock c target) h e)
