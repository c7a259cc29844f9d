-- A run begins.
use Rattle.std.proofs.Common.{◌≡◌, ℕ, List, [], length, Option, None, refl, sym, ◌∙◌, ap, subst, le_refl, inl}
use Rattle.std.specs.Prelude.{Result, Ok, Err}
use Rattle.std.proofs.Math.Path.{fun_ext}
use Rattle.std.specs.Io.KnownBytes.{Appends}
use Rattle.text_port.proofs.Pieces.{appends_none}
use Rattle.seg_words.specs.Types.{Shape}
use Rattle.disk_model.specs.Crash.{Meaning}
use Rattle.redo_model.specs.Records.{Record}
use Rattle.session_laws.specs.Sessions.{own_of}
use Rattle.script_text.specs.declared.statement.Statement.{Statement}
use Rattle.script_text.specs.declared.statement.Turns.{Turns}
use Rattle.script_text.specs.Script.{Script}
use Rattle.history_model.specs.declared.history.HistoryItem.{HistoryItem}
use Rattle.history_model.specs.History.{AreInTime}
use Rattle.session_model.specs.Sessions.{Session}
use Rattle.session_model.specs.Worlds.{IsWorld}
use Rattle.session_model.specs.Laws.{NoneActive, fresh}
use Rattle.session_model.proofs.Events.{worlds_begin}
use Rattle.store_core.specs.Store.{Held, IsTrue}
use Rattle.store_core.specs.Survives.{Survives}
use Rattle.store_core.specs.declared.fault.StoreFault.TheVariants.{NoMemory}
use Rattle.scan_table.specs.Places.{place}
use Rattle.scan_table.specs.declared.scan.OpenScan.{OpenScan}
use Rattle.session_core.specs.Scanned.{IsShaped}
use Rattle.session_core.specs.Located.{KeepsDoing}
use Rattle.session_step.specs.declared.session.Session.{Session as Told}
use Rattle.session_step.specs.Bindings.{row_of}
use Rattle.session_step.specs.Stages.{session_at, IsHeld}
use Rattle.session_world.specs.declared.events.Run.{Run}
use Rattle.session_world.specs.declared.fault.RunFault.{RunFault}
use Rattle.session_world.specs.declared.fault.RunFault.TheVariants as stops
use Rattle.session_world.specs.Order.{after_schedule, after_rounds, AreTurns, turns_none, turns_whole}
use Rattle.session_world.specs.Whole.{text_of, needed_by, HasRunTurnsOf, HasRunScript, HasRunIn}
use Rattle.session_world.specs.Seats.{unstarted, seen_in}
use Rattle.session_world.specs.Between.{IsFresh, IsRunAt, IsSoFar, IsIdle}
use Rattle.session_world.specs.Rounds.{HasComeToEnd}
use Rattle.session_world.proofs.Taken.{printed_took}
use Rattle.session_world.proofs.Ordered.{schedule_precedes}

seen_fresh : (count : ℕ) (run : Run) → IsFresh count run → (w : ℕ) → seen_in run.seats.items run.scans w ≡ fresh w
seen_fresh count run h w = ap (λ (z : Told). session_at (place w run.scans) z) (h.idle w) ∙ ap (λ (p : Option OpenScan). session_at p unstarted) (h.closed w)

none_bound : (labels : List (List ℕ × ℕ)) → labels ≡ [] → (l : List ℕ) → row_of labels l ≡ None
none_bound labels e l = ap (λ (z : List (List ℕ × ℕ)). row_of z l) e

begun_world : (sh : Shape) (scripts : List (List Statement)) (R0 : List Record) (count : ℕ) (run : Run) → IsFresh count run → IsWorld sh scripts R0 R0 [] fresh (λ l. None) → IsWorld sh scripts R0 R0 run.history (seen_in run.seats.items run.scans) (row_of run.labels)
begun_world sh scripts R0 count run h w =
    let seen : seen_in run.seats.items run.scans ≡ fresh = fun_ext (seen_fresh count run h) in
    let bound : row_of run.labels ≡ (λ l. None) = fun_ext (none_bound run.labels h.unlabelled) in
    subst (λ (T : List HistoryItem). IsWorld sh scripts R0 R0 T (seen_in run.seats.items run.scans) (row_of run.labels)) (sym h.untold)
    (subst (λ (f : ℕ → Session). IsWorld sh scripts R0 R0 [] f (row_of run.labels)) (sym seen) (subst (λ (f : List ℕ → Option ℕ). IsWorld sh scripts R0 R0 [] fresh f) (sym bound) w))

begun_at : {D : Type 0} (meaning : Meaning D) (scripts : List (List Statement)) (R0 : List Record) (s : Held D) (run : Run) → IsTrue meaning R0 s → NoneActive R0 → IsFresh (length scripts) run → IsRunAt meaning scripts R0 R0 s run
begun_at meaning scripts R0 s run t none h = record {
  stands = t;
  seats = h.seats;
  world = begun_world s.shape scripts R0 (length scripts) run h (worlds_begin s.shape scripts R0 t.lawful none);
  own = λ w session. none w ∙ ap (λ (z : Told). z.own) (sym (h.idle w));
  shaped = λ w session. subst (λ (p : Option OpenScan). IsShaped s.shape p) (sym (h.closed w)) tt;
  held = λ w session. subst (λ (z : Told). IsHeld (place w run.scans) z.doing) (sym (h.idle w)) (h.closed w);
  located = λ w session. subst (λ (z : Told). KeepsDoing s.shape R0 (own_of R0 w) z.doing) (sym (h.idle w)) tt;
  in_time = subst (λ (T : List HistoryItem). AreInTime (meaning.clock s.disk) T) (sym h.untold) tt;
}

pub run_begins : {D : Type 0} (meaning : Meaning D) (scripts : List (List Statement)) (R0 : List Record) (s : Held D) (before : Option (List ℕ)) (run : Run) → IsTrue meaning R0 s → NoneActive R0 → IsFresh (length scripts) run → IsSoFar meaning scripts R0 R0 [] s s before before run
run_begins meaning scripts R0 s before run t none h = record {
  at = begun_at meaning scripts R0 s run t none h;
  shape = refl;
  turns = subst (λ (T : List HistoryItem). AreTurns s.shape scripts R0 [] R0 T) (sym h.untold) turns_none;
  took = subst (λ (T : List HistoryItem). Appends before before (text_of T)) (sym h.untold) (appends_none before);
  survives = λ since found k. subst (λ (T : List HistoryItem). Survives meaning since (needed_by found T) R0 s) (sym h.untold) k;
  time = le_refl (meaning.clock s.disk);
}

-- a run that didn't begin, for want of memory
pub never_begun : {D : Type 0} (meaning : Meaning D) (script : Script) (R0 : List Record) (s : Held D) (before : Option (List ℕ)) → IsTrue meaning R0 s → NoneActive R0 → HasRunScript meaning script R0 s s before before (Err (stops.Store NoMemory))
never_begun meaning script R0 s before t none = record {
  rounds = 0;
  ran = record {
    run = record {
      records = R0;
      history = [];
      stands = t;
      legal = (worlds_begin s.shape script.sessions R0 t.lawful none).legal;
      in_time = tt;
      took = printed_took (Err (stops.Store NoMemory)) before before [] (inl (appends_none before));
      printed = inl (appends_none before);
      over = tt;
      stable = tt;
      survives = λ since found k. k;
      time = le_refl (meaning.clock s.disk);
      sound = tt;
    };
    turns = record { called = []; first = schedule_precedes script.schedule []; turns = turns_whole [] R0 [] turns_none };
  };
}

module _ {D : Type 0} (meaning : Meaning D) (script : Script) (ss : List (List Statement)) (ts : List Turns) (same : ss ≡ script.sessions) (order : ts ≡ script.schedule) (R0 : List Record) (s mid new : Held D) (before after : Option (List ℕ)) (run last : Run) (t : IsTrue meaning R0 s) (none : NoneActive R0) (fresh : IsFresh (length script.sessions) run) where
  so_far : IsSoFar meaning ss R0 R0 [] s s before before run
  so_far = run_begins meaning ss R0 s before run t none (subst (λ (n : ℕ). IsFresh n run) (ap (λ (z : List (List Statement)). length z) (sym same)) fresh)

  -- these turns, told by the script
  as_script : (k : ℕ) (T : List HistoryItem) (r : Result (Unit {0}) RunFault) → HasRunTurnsOf meaning ss R0 (after_rounds (length ss) k (after_schedule ts [])) s new before after T r → HasRunIn meaning script R0 s new before after T r
  as_script k T r h =
      let told : HasRunTurnsOf meaning script.sessions R0 (after_rounds (length script.sessions) k (after_schedule script.schedule [])) s new before after T r =
      subst (λ (z : List (List Statement)). HasRunTurnsOf meaning z R0 (after_rounds (length z) k (after_schedule script.schedule [])) s new before after T r) same
      (subst (λ (z : List Turns). HasRunTurnsOf meaning ss R0 (after_rounds (length ss) k (after_schedule z [])) s new before after T r) order h) in
      record { whole = record { rounds = k; ran = told.taken }; history = told.history }

  -- a run that came to its end, and was closed
  pub run_whole : (r : Result (Unit {0}) RunFault) → ((Q0 Q : List Record) (called : List ℕ) (first : Held D) (b : Option (List ℕ)) → IsSoFar meaning ss Q0 Q called first s b before run → HasComeToEnd meaning ss Q0 (after_schedule ts called) first mid b after last (Ok tt))
      → ((scripts : List (List Statement)) (Q0 : List Record) (called : List ℕ) (first : Held D) (b a : Option (List ℕ)) (u : Run) → IsIdle meaning scripts Q0 called first mid b a u → HasRunTurnsOf meaning scripts Q0 called first new b a u.history r) → HasRunIn meaning script R0 s new before after last.history r
  run_whole r comes closed =
      let rest = comes R0 R0 [] s before so_far in
      as_script rest.rounds last.history r (closed ss R0 (after_rounds (length ss) rest.rounds (after_schedule ts [])) s before after last rest.idle)

  -- or that stopped before
  pub run_part : (f : RunFault) → ((Q0 Q : List Record) (called : List ℕ) (first : Held D) (b : Option (List ℕ)) → IsSoFar meaning ss Q0 Q called first s b before run → HasComeToEnd meaning ss Q0 (after_schedule ts called) first new b after last (Err f)) → HasRunIn meaning script R0 s new before after last.history (Err f)
  run_part f comes = let stop = comes R0 R0 [] s before so_far in as_script stop.rounds last.history (Err f) (record { taken = stop.stopped; history = tt })
