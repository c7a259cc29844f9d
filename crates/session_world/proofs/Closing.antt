-- A run comes to its end.
use Rattle.std.proofs.Common.{◌≡◌, ℕ, ◌≤◌, List, [], ◌∷◌, length, Option, Some, None, refl, sym, subst, le_trans}
use Rattle.std.specs.Prelude.{Ok, Err}
use Rattle.seg_words.specs.Types.{Shape}
use Rattle.disk_model.specs.Crash.{Meaning}
use Rattle.redo_model.specs.Records.{Record}
use Rattle.script_text.specs.declared.statement.Statement.{Statement}
use Rattle.history_model.specs.declared.history.HistoryItem.{HistoryItem}
use Rattle.history_model.specs.declared.history.HistoryItem.TheVariants as item
use Rattle.history_model.specs.History.{IsSession, Task, AreInTime, IsOver, under_way}
use Rattle.history_model.specs.Legal.{IsLegal}
use Rattle.history_laws.proofs.Owned.{ways_are_known}
use Rattle.history_laws.proofs.Ways.{runs_end}
use Rattle.session_model.specs.Sessions.{HasEnded}
use Rattle.session_model.specs.Worlds.{IsWorld}
use Rattle.session_model.proofs.Running.{worlds_run}
use Rattle.store_core.specs.Store.{Held, IsTrue}
use Rattle.store_core.specs.Causes.{HasLooked, IsSoundFault}
use Rattle.store_core.specs.declared.fault.StoreFault.{StoreFault}
use Rattle.store_core.specs.declared.fault.StoreFault.TheVariants.{DeviceFault}
use Rattle.session_world.specs.declared.fault.RunFault.TheVariants as stops
use Rattle.session_world.specs.declared.events.Run.{Run}
use Rattle.session_world.specs.Order.{precedes_same, turns_whole}
use Rattle.session_world.specs.Whole.{needed_by, HasRunTurnsOf}
use Rattle.session_world.specs.Seats.{seen_in}
use Rattle.session_world.specs.Between.{IsIdle}
use Rattle.session_world.proofs.Taken.{printed_before, printed_took}
use Rattle.session_step.specs.Bindings.{row_of}

time_later : (m n : ℕ) (T : List HistoryItem) → m ≤ n → AreInTime m T → AreInTime n T
time_later m n [] l h = tt
time_later m n (item.Started s ∷ T) l h = time_later m n T l h
time_later m n (item.Told e k ∷ T) l h = (le_trans h.0 l, h.1)

-- nothing is under way, of any session whatever
idle_all : (sh : Shape) (scripts : List (List Statement)) (R0 R : List Record) (T : List HistoryItem) → IsLegal sh scripts R0 R T → ((w : ℕ) → IsSession scripts w → HasEnded scripts R T w) → (w : ℕ) (o : Option Task) → under_way T w ≡ o → under_way T w ≡ None
idle_all sh scripts R0 R T legal ended w None e = e
idle_all sh scripts R0 R T legal ended w (Some task) e = (ended w (ways_are_known sh scripts (length R0) R T w task legal.told e).session).idle

all_over : (sh : Shape) (scripts : List (List Statement)) (R0 R : List Record) (T : List HistoryItem) → IsLegal sh scripts R0 R T → ((w : ℕ) → IsSession scripts w → HasEnded scripts R T w) → IsOver scripts T
all_over sh scripts R0 R T legal ended = record { told = λ w session. (ended w session).all_told; idle = λ w. idle_all sh scripts R0 R T legal ended w (under_way T w) refl }

module _ {D : Type 0} (meaning : Meaning D) (scripts : List (List Statement)) (R0 : List Record) (called : List ℕ) (first old new : Held D) (before after : Option (List ℕ)) (run : Run) where
  -- each session has ended, and all records were made stable
  pub run_closes : IsIdle meaning scripts R0 called first old before after run → HasLooked {T = Unit {0}} meaning old new (Ok tt) → ((R : List Record) → IsTrue meaning R old → new.log.stable ≡ length R) → HasRunTurnsOf meaning scripts R0 called first new before after run.history (Ok tt)
  run_closes h looked stable =
      let so = h.so_far in
      let R = h.records in
      let world = subst (λ (sh : Shape). IsWorld sh scripts R0 R run.history (seen_in run.seats.items run.scans) (row_of run.labels)) so.shape so.at.world in
      let later = looked.loan.time R so.at.stands.list in
      let in_time = time_later (meaning.clock old.disk) (meaning.clock new.disk) run.history later so.at.in_time in
      record {
        taken = record {
          run = record {
            records = R;
            history = run.history;
            stands = looked.stays_true R so.at.stands;
            legal = world.legal;
            in_time = in_time;
            took = printed_took (Ok tt) before after run.history so.took;
            printed = so.took;
            over = runs_end first.shape scripts R0 R run.history (meaning.clock new.disk) (worlds_run first.shape scripts R0 R run.history (seen_in run.seats.items run.scans) (row_of run.labels) (meaning.clock new.disk) world in_time)
                (all_over first.shape scripts R0 R run.history world.legal h.ended) (λ w session. (h.ended w session).closed);
            stable = stable R so.at.stands;
            survives = λ since found k. looked.survives since (needed_by found run.history) R so.at.stands (so.survives since found k);
            time = le_trans so.time later;
            sound = tt;
          };
          turns = so.turns;
        };
        history = refl;
      }

  -- or the disk failed
  pub run_fails : (f : StoreFault) → IsSoundFault f → IsIdle meaning scripts R0 called first old before after run → HasLooked {T = Unit {0}} meaning old new (Err f) → HasRunTurnsOf meaning scripts R0 called first new before after run.history (Err (stops.Store f))
  run_fails f sound h looked =
      let so = h.so_far in
      let R = h.records in
      let later = looked.loan.time R so.at.stands.list in
      let printed = printed_before f before after run.history so.took in
      record {
        taken = record {
          run = record {
            records = R;
            history = run.history;
            stands = looked.stays_true R so.at.stands;
            legal = subst (λ (sh : Shape). IsLegal sh scripts R0 R run.history) so.shape so.at.world.legal;
            in_time = time_later (meaning.clock old.disk) (meaning.clock new.disk) run.history later so.at.in_time;
            took = printed_took (Err (stops.Store f)) before after run.history printed;
            printed = printed;
            over = tt;
            stable = tt;
            survives = λ since found k. looked.survives since (needed_by found run.history) R so.at.stands (so.survives since found k);
            time = le_trans so.time later;
            sound = sound;
          };
          turns = record { called = called; first = precedes_same; turns = turns_whole called R run.history so.turns };
        };
        history = tt;
      }

-- the disk's fault alone
pub only_device : (f : StoreFault) → f ≡ DeviceFault → IsSoundFault f
only_device f e = subst IsSoundFault (sym e) tt
