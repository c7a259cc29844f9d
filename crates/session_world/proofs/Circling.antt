-- A turn of a session with its lines, and turns one after the other.
use Rattle.std.proofs.Common.{◌≡◌, ℕ, zero, suc, ◌+◌, ◌-◌, ◌<◌, ◌≤◌, Bool, true, false, ◌||◌, List, ◌∷◌, length, get_or, take, Option, refl, sym, ◌∙◌, ap, subst, le_trans, inl, inr, arith}
use Rattle.std.specs.Prelude.{None, Result, Ok, Err}
use Rattle.std.specs.Io.KnownBytes.{Appends}
use Rattle.seg_words.proofs.Lemmas.{cases_eq}
use Rattle.seg_words.specs.Types.{Shape}
use Rattle.disk_model.specs.Crash.{Meaning}
use Rattle.redo_model.specs.Records.{Record}
use Rattle.script_text.specs.declared.statement.Statement.{Statement}
use Rattle.script_text.specs.declared.statement.Turns.{Turns}
use Rattle.history_model.specs.declared.history.HistoryItem.{HistoryItem}
use Rattle.history_model.specs.History.{IsSession}
use Rattle.history_model.specs.Legal.{IsLegal}
use Rattle.session_model.specs.Sessions.{HasEnded}
use Rattle.session_model.specs.Worlds.{IsWorld}
use Rattle.session_model.proofs.Running.{worlds_run}
use Rattle.store_core.specs.Store.{Held}
use Rattle.store_core.specs.Survives.{Survives}
use Rattle.store_core.specs.declared.fault.StoreFault.{StoreFault}
use Rattle.store_core.specs.declared.fault.StoreFault.TheVariants as faults
use Rattle.session_step.specs.declared.session.Turn.{Turn}
use Rattle.session_step.specs.declared.session.Turn.TheVariants as turns
use Rattle.session_world.specs.declared.fault.RunFault.{RunFault}
use Rattle.session_world.specs.declared.fault.RunFault.TheVariants as stops
use Rattle.session_world.specs.declared.events.Run.{Run}
use Rattle.session_step.specs.Events.{IsTurn, IsPart}
use Rattle.session_world.specs.Order.{after_item, after_schedule, after_round, after_rounds, Precedes, precedes_same, AreTurns, turn_made, turn_passed, AreTurnsSoFar, turns_whole, turn_part}
use Rattle.session_world.specs.Whole.{text_of, needed_by, HasRunTurns, IsPrinted, IsSoundStop}
use Rattle.session_world.specs.Telling.{HandsOutSince, HasTaken}
use Rattle.session_world.specs.Seats.{told_at, seen_in}
use Rattle.session_step.specs.Bindings.{row_of}
use Rattle.session_world.specs.Between.{IsSoFar, IsOn, IsPassedOver, TakesTurn}
use Rattle.session_world.specs.Moving.{HasMoved}
use Rattle.session_world.specs.Rounds.{ArePassedOver, IsRound, HasTurned, HasGoneRound, IsAtRest, StopsInRounds}
use Rattle.session_world.proofs.Taken.{taken_more, still_text, printed_before, printed_part, printed_took, appends_same}
use Rattle.session_world.proofs.Needed.{needs_more, needs_same}
use Rattle.session_world.proofs.Ordered.{precedes_on, item_to, item_next, item_within, schedule_none, schedule_next, schedule_within, schedule_all, round_next, round_within, rounds_next}
use Rattle.session_world.specs.Calling.{HasServed}
use Rattle.session_world.proofs.Serving.{served_same, served_on, served_ok}

-- ---- a turn

sound_line : (f : RunFault) (a b : Option (List ℕ)) (T : List HistoryItem) → HasTaken (Err f) a b T → IsSoundStop f
sound_line (stops.Store faults.DeviceFault) a b T h = tt
sound_line (stops.Store (faults.BadPage d)) a b T h = absurd h
sound_line (stops.Store faults.NoMemory) a b T h = tt
sound_line stops.WriteFault a b T h = tt

module _ {D : Type 0} (meaning : Meaning D) (scripts : List (List Statement)) (R0 R : List Record) (called : List ℕ) (who : ℕ) (first old new : Held D) (before mid after : Option (List ℕ)) (was run : Run) (so : IsSoFar meaning scripts R0 R called first old before mid was) where
  needs_ok : (turn : Turn) (h : HasMoved meaning scripts R0 R who old new was run (Ok turn)) → new.fault ≡ None → (since found : ℕ) → Survives meaning since (λ m. found) R0 first → Survives meaning since (needed_by found run.history) h.records new
  needs_ok turn h unspent since found k =
      needs_more meaning who found (told_at was.seats.items who).told (told_at run.seats.items who).told h.records new was.history h.grows.begun run.history since h.stands unspent h.grows.begins h.grows.ends h.entry
      (h.survives since (needed_by found was.history) (so.survives since found k))

  needs_err : (f : StoreFault) (h : HasMoved meaning scripts R0 R who old new was run (Err f)) → (since found : ℕ) → Survives meaning since (λ m. found) R0 first → Survives meaning since (needed_by found run.history) h.records new
  needs_err f h since found k =
      needs_same meaning found (told_at was.seats.items who).told (told_at run.seats.items who).told h.records new was.history h.grows.begun run.history since h.grows.begins h.grows.ends h.untold
      (h.survives since (needed_by found was.history) (so.survives since found k))

  -- the turns with this one
  turns_with : (turn : Turn) (h : HasMoved meaning scripts R0 R who old new was run (Ok turn)) → AreTurns first.shape scripts R0 (who ∷ called) h.records run.history
  turns_with turns.Made h =
      let world = subst (λ (sh : Shape). IsWorld sh scripts R0 h.records run.history (seen_in run.seats.items run.scans) (row_of run.labels)) (h.shape ∙ so.shape) h.turns.world in
      turn_made who called R h.records was.history run.history so.turns (subst (λ (sh : Shape). IsTurn sh scripts who R was.history h.records run.history) so.shape h.makes) (meaning.clock new.disk)
      (worlds_run first.shape scripts R0 h.records run.history (seen_in run.seats.items run.scans) (row_of run.labels) (meaning.clock new.disk) world h.turns.in_time)
  turns_with turns.Ended h =
      subst (λ (Q : List Record). AreTurns first.shape scripts R0 (who ∷ called) Q run.history) (sym h.makes.0)
      (subst (λ (T : List HistoryItem). AreTurns first.shape scripts R0 (who ∷ called) R T) (sym h.makes.1)
      (turn_passed who called R was.history so.turns (λ s. subst (λ (T : List HistoryItem). HasEnded scripts R T who) h.makes.1 (h.turns.0.ended s))))

  -- with a part of it
  turns_part : (f : StoreFault) (h : HasMoved meaning scripts R0 R who old new was run (Err f)) → AreTurnsSoFar first.shape scripts R0 (who ∷ called) h.records run.history
  turns_part f h = turn_part who called R h.records was.history run.history so.turns (subst (λ (sh : Shape). IsPart sh scripts who R was.history h.records run.history) so.shape h.makes)

  halts : (r : Result Turn StoreFault) (f : RunFault) (h : HasMoved meaning scripts R0 R who old new was run r) → AreTurnsSoFar first.shape scripts R0 (who ∷ called) h.records run.history
      → ((since found : ℕ) → Survives meaning since (λ m. found) R0 first → Survives meaning since (needed_by found run.history) h.records new) → IsPrinted {A = Unit {0}} (Err f) before after run.history → IsSoundStop f
      → HasRunTurns meaning scripts R0 (who ∷ called) first new before after (Err f)
  halts r f h made survives printed sound = record {
    run = record {
      records = h.records;
      history = run.history;
      stands = h.stands;
      legal = subst (λ (sh : Shape). IsLegal sh scripts R0 h.records run.history) so.shape h.legal;
      in_time = h.in_time;
      took = printed_took (Err f) before after run.history printed;
      printed = printed;
      over = tt;
      stable = tt;
      survives = survives;
      time = le_trans so.time h.time;
      sound = sound;
    };
    turns = record { called = who ∷ called; first = precedes_same; turns = made };
  }

  -- the store failed, or there was no memory
  pub turn_fails : (f : StoreFault) → HasMoved meaning scripts R0 R who old new was run (Err f) → after ≡ mid → TakesTurn meaning scripts R0 R called who first new before after was run (Err (stops.Store f))
  turn_fails f h same =
      let text = still_text (told_at was.seats.items who).told (told_at run.seats.items who).told was.history h.grows.begun run.history h.grows.begins h.grows.ends h.untold in
      halts (Err f) (stops.Store f) h (turns_part f h) (needs_err f h) (printed_before f before after run.history (subst (λ (xs : List ℕ). Appends before after xs) (sym text) (appends_same before mid after (text_of was.history) so.took same))) h.sound

  taken : (r : Result Turn StoreFault) (l : Result (Unit {0}) RunFault) → HasMoved meaning scripts R0 R who old new was run r → HandsOutSince (length was.history) run.history mid after l → HasTaken l before after run.history
  taken r l h out = taken_more before mid after (told_at was.seats.items who).told (told_at run.seats.items who).told was.history h.grows.begun run.history l h.grows.begins h.grows.ends out so.took

  -- the lines of its entry weren't taken
  pub line_fails : (turn : Turn) (f : RunFault) → HasMoved meaning scripts R0 R who old new was run (Ok turn) → new.fault ≡ None → HandsOutSince (length was.history) run.history mid after (Err f) → TakesTurn meaning scripts R0 R called who first new before after was run (Err f)
  line_fails turn f h unspent out =
      let t = taken (Ok turn) (Err f) h out in
      halts (Ok turn) f h (turns_whole (who ∷ called) h.records run.history (turns_with turn h)) (needs_ok turn h unspent) (printed_part f before after run.history t) (sound_line f before after run.history t)

  -- the turn was taken
  pub turn_taken : (turn : Turn) → HasMoved meaning scripts R0 R who old new was run (Ok turn) → new.fault ≡ None → HandsOutSince (length was.history) run.history mid after (Ok tt) → TakesTurn meaning scripts R0 R called who first new before after was run (Ok turn)
  turn_taken turns.Made h unspent out = record {
    records = h.records;
    so_far = record {
      at = h.turns;
      shape = h.shape ∙ so.shape;
      turns = turns_with turns.Made h;
      took = taken (Ok turns.Made) (Ok tt) h out;
      survives = needs_ok turns.Made h unspent;
      time = le_trans so.time h.time;
    };
  }
  turn_taken turns.Ended h unspent out = record {
    so_far = record {
      at = h.turns.0.at;
      shape = h.shape ∙ so.shape;
      turns = subst (λ (Q : List Record). AreTurns first.shape scripts R0 (who ∷ called) Q run.history) h.turns.1 (turns_with turns.Ended h);
      took = taken (Ok turns.Ended) (Ok tt) h out;
      survives = λ since found k. subst (λ (Q : List Record). Survives meaning since (needed_by found run.history) Q new) h.turns.1 (needs_ok turns.Ended h unspent since found k);
      time = le_trans so.time h.time;
    };
    same = h.turns.0.same;
    ended = h.turns.0.ended;
  }

-- the lines were handed out since the history was so long
pub since_then : (n m : ℕ) (T : List HistoryItem) (a b : Option (List ℕ)) (r : Result (Unit {0}) RunFault) → n ≡ m → HandsOutSince n T a b r → HandsOutSince m T a b r
since_then n m T a b r e h = subst (λ (k : ℕ). HandsOutSince k T a b r) e h

-- ---- turns

module _ {D : Type 0} (meaning : Meaning D) (scripts : List (List Statement)) (R0 : List Record) where
  pub turned_made : (R : List Record) (called : List ℕ) (who : ℕ) (first new : Held D) (before after : Option (List ℕ)) (was run : Run) (turn : Turn) → turn ≡ turns.Made → TakesTurn meaning scripts R0 R called who first new before after was run (Ok turn) → HasTurned meaning scripts R0 R called who first new before after was run (Ok true)
  turned_made R called who first new before after was run turn e h = subst (λ (t : Turn). TakesTurn meaning scripts R0 R called who first new before after was run (Ok t)) e h

  pub turned_ended : (R : List Record) (called : List ℕ) (who : ℕ) (first new : Held D) (before after : Option (List ℕ)) (was run : Run) (turn : Turn) → turn ≡ turns.Ended → TakesTurn meaning scripts R0 R called who first new before after was run (Ok turn) → HasTurned meaning scripts R0 R called who first new before after was run (Ok false)
  turned_ended R called who first new before after was run turn e h = subst (λ (t : Turn). TakesTurn meaning scripts R0 R called who first new before after was run (Ok t)) e h

  -- whichever it was, the run goes on
  pub turned_on : (R : List Record) (called : List ℕ) (who : ℕ) (first new : Held D) (before after : Option (List ℕ)) (was run : Run) (b : Bool) → HasTurned meaning scripts R0 R called who first new before after was run (Ok b) → IsOn meaning scripts R0 (who ∷ called) first new before after run
  turned_on R called who first new before after was run true h = h
  turned_on R called who first new before after was run false h = record { records = R; so_far = h.so_far }

  -- a run that stops may have had more turns to take
  pub stops_within : (all more : List ℕ) (first new : Held D) (before after : Option (List ℕ)) (f : RunFault) → Precedes all more → HasRunTurns meaning scripts R0 all first new before after (Err f) → HasRunTurns meaning scripts R0 more first new before after (Err f)
  stops_within all more first new before after f p h = record { run = h.run; turns = record { called = h.turns.called; first = precedes_on h.turns.called all more h.turns.first p; turns = h.turns.turns } }

  -- a run that goes on stops for want of memory
  pub lacks_memory : (called : List ℕ) (first new : Held D) (before after : Option (List ℕ)) (run : Run) → IsOn meaning scripts R0 called first new before after run → HasRunTurns meaning scripts R0 called first new before after (Err (stops.Store faults.NoMemory))
  lacks_memory called first new before after run h = record {
    run = record {
      records = h.records;
      history = run.history;
      stands = h.so_far.at.stands;
      legal = subst (λ (sh : Shape). IsLegal sh scripts R0 h.records run.history) h.so_far.shape h.so_far.at.world.legal;
      in_time = h.so_far.at.in_time;
      took = printed_took (Err (stops.Store faults.NoMemory)) before after run.history (inl h.so_far.took);
      printed = inl h.so_far.took;
      over = tt;
      stable = tt;
      survives = h.so_far.survives;
      time = h.so_far.time;
      sound = tt;
    };
    turns = record { called = called; first = precedes_same; turns = turns_whole called h.records run.history h.so_far.turns };
  }

  -- after the same turns, told otherwise
  pub on_as : (called more : List ℕ) (first now : Held D) (before after : Option (List ℕ)) (run : Run) → called ≡ more → IsOn meaning scripts R0 called first now before after run → IsOn meaning scripts R0 more first now before after run
  on_as called more first now before after run e h = subst (λ (z : List ℕ). IsOn meaning scripts R0 z first now before after run) e h

  -- ---- the turns of an item

  -- one that is passed over
  pass_one : (R : List Record) (called : List ℕ) (who : ℕ) (first now : Held D) (before after : Option (List ℕ)) (run : Run) → (IsSession scripts who → HasEnded scripts R run.history who) → IsSoFar meaning scripts R0 R called first now before after run → IsSoFar meaning scripts R0 R (who ∷ called) first now before after run
  pass_one R called who first now before after run ended h = record { at = h.at; shape = h.shape; turns = turn_passed who called R run.history h.turns ended; took = h.took; survives = h.survives; time = h.time }

  pass_all : (R : List Record) (called : List ℕ) (who n : ℕ) (first now : Held D) (before after : Option (List ℕ)) (run : Run) → (IsSession scripts who → HasEnded scripts R run.history who) → IsSoFar meaning scripts R0 R called first now before after run → IsSoFar meaning scripts R0 R (after_item who n called) first now before after run
  pass_all R called who zero first now before after run ended h = h
  pass_all R called who (suc n) first now before after run ended h = pass_one R (after_item who n called) who first now before after run ended (pass_all R called who n first now before after run ended h)

  -- a session that has ended has its other turns passed over
  pub item_rests : (R : List Record) (called : List ℕ) (who i n : ℕ) (first new : Held D) (before after : Option (List ℕ)) (was run : Run) (b : Bool) → b ≡ false → i < n → HasTurned meaning scripts R0 R (after_item who i called) who first new before after was run (Ok b) → IsOn meaning scripts R0 (after_item who n called) first new before after run
  item_rests R called who i n first new before after was run b e l h =
      let p : HasTurned meaning scripts R0 R (after_item who i called) who first new before after was run (Ok false) = subst (λ (z : Bool). HasTurned meaning scripts R0 R (after_item who i called) who first new before after was run (Ok z)) e h in
      on_as (after_item who (n - suc i) (after_item who (suc i) called)) (after_item who n called) first new before after run (item_to who (suc i) n called (omega (arith, l)))
      (record { records = R; so_far = pass_all R (after_item who (suc i) called) who (n - suc i) first new before after run p.ended p.so_far })

  pub item_stops : (called : List ℕ) (who i n : ℕ) (first new : Held D) (before after : Option (List ℕ)) (f : RunFault) → i < n → HasRunTurns meaning scripts R0 (who ∷ after_item who i called) first new before after (Err f) → HasRunTurns meaning scripts R0 (after_item who n called) first new before after (Err f)
  item_stops called who i n first new before after f l h = stops_within (who ∷ after_item who i called) (after_item who n called) first new before after f (item_within who i n called l) h

  pub item_over : (called : List ℕ) (who i n : ℕ) (first now : Held D) (before after : Option (List ℕ)) (run : Run) → i ≡ n → IsOn meaning scripts R0 (after_item who i called) first now before after run → IsOn meaning scripts R0 (after_item who n called) first now before after run
  item_over called who i n first now before after run e h = on_as (after_item who i called) (after_item who n called) first now before after run (ap (λ (k : ℕ). after_item who k called) e) h

  -- ---- those of a schedule

  pub schedule_stops : (ts : List Turns) (i : ℕ) (none : Turns) (called : List ℕ) (first new : Held D) (before after : Option (List ℕ)) (f : RunFault) → i < length ts → HasRunTurns meaning scripts R0 (after_item (get_or ts i none).who (get_or ts i none).times (after_schedule (take i ts) called)) first new before after (Err f)
      → HasRunTurns meaning scripts R0 (after_schedule ts called) first new before after (Err f)
  schedule_stops ts i none called first new before after f l h = stops_within (after_item (get_or ts i none).who (get_or ts i none).times (after_schedule (take i ts) called)) (after_schedule ts called) first new before after f (schedule_within ts i none called l) h

  pub schedule_over : (ts : List Turns) (i : ℕ) (called : List ℕ) (first now : Held D) (before after : Option (List ℕ)) (run : Run) → length ts ≤ i → IsOn meaning scripts R0 (after_schedule (take i ts) called) first now before after run → IsOn meaning scripts R0 (after_schedule ts called) first now before after run
  schedule_over ts i called first now before after run l h = on_as (after_schedule (take i ts) called) (after_schedule ts called) first now before after run (schedule_all ts i called l) h

  -- ---- rounds

  pub round_begins : (R : List Record) (called : List ℕ) (first now : Held D) (before after : Option (List ℕ)) (run : Run) → IsSoFar meaning scripts R0 R called first now before after run → IsRound meaning scripts R0 R called 0 first now before after run run false
  round_begins R called first now before after run h = record { so_far = h; same = refl; ended = λ w from to. absurd (omega (arith, from, to)) }

  pub round_on : (R : List Record) (called : List ℕ) (count : ℕ) (first now : Held D) (before after : Option (List ℕ)) (was run : Run) (made : Bool) → IsRound meaning scripts R0 R called count first now before after was run made → IsOn meaning scripts R0 (after_round count called) first now before after run
  round_on R called count first now before after was run true h = h
  round_on R called count first now before after was run false h = record { records = R; so_far = h.so_far }

  passed_more : (R : List Record) (called : List ℕ) (count : ℕ) (first old new : Held D) (before mid after : Option (List ℕ)) (begun was run : Run) → count + 1 ≤ length scripts → ArePassedOver meaning scripts R0 R called count first old before mid begun was → IsPassedOver meaning scripts R0 R (after_round count called) (count + 1) first new before after was run
      → ArePassedOver meaning scripts R0 R called (count + 1) first new before after begun run
  passed_more R called count first old new before mid after begun was run within h p = record {
    so_far = subst (λ (z : List ℕ). IsSoFar meaning scripts R0 R z first new before after run) (sym (round_next count called)) p.so_far;
    same = p.same ∙ h.same;
    ended = λ w from to. elim (cases_eq w (count + 1)) [
      | inl e ↦ subst (λ (v : ℕ). HasEnded scripts R run.history v) (sym e) (p.ended (record { from = omega arith; to = within }))
      | inr ne ↦ subst (λ (T : List HistoryItem). HasEnded scripts R T w) (sym p.same) (h.ended w from (omega (arith, to, ne)))
    ];
  }

  -- the turn of the next session
  round_turn : (R : List Record) (called : List ℕ) (count : ℕ) (first new : Held D) (before after : Option (List ℕ)) (was run : Run) (b : Bool) → HasTurned meaning scripts R0 R (after_round count called) (count + 1) first new before after was run (Ok b) → IsOn meaning scripts R0 (after_round (count + 1) called) first new before after run
  round_turn R called count first new before after was run b h = on_as ((count + 1) ∷ after_round count called) (after_round (count + 1) called) first new before after run (sym (round_next count called)) (turned_on R (after_round count called) (count + 1) first new before after was run b h)

  pub round_goes : (R : List Record) (called : List ℕ) (count : ℕ) (first old new : Held D) (before mid after : Option (List ℕ)) (begun was run : Run) (made b : Bool) → count + 1 ≤ length scripts → IsRound meaning scripts R0 R called count first old before mid begun was made
      → ((Q : List Record) (these : List ℕ) → IsSoFar meaning scripts R0 Q these first old before mid was → HasTurned meaning scripts R0 Q these (count + 1) first new before after was run (Ok b)) → IsRound meaning scripts R0 R called (count + 1) first new before after begun run (made || b)
  round_goes R called count first old new before mid after begun was run true b within h turn = round_turn h.records called count first new before after was run b (turn h.records (after_round count called) h.so_far)
  round_goes R called count first old new before mid after begun was run false true within h turn = round_turn R called count first new before after was run true (turn R (after_round count called) h.so_far)
  round_goes R called count first old new before mid after begun was run false false within h turn = passed_more R called count first old new before mid after begun was run within h (turn R (after_round count called) h.so_far)

  pub round_stops : (called : List ℕ) (count : ℕ) (first new : Held D) (before after : Option (List ℕ)) (f : RunFault) → count < length scripts → HasRunTurns meaning scripts R0 ((count + 1) ∷ after_round count called) first new before after (Err f) → HasRunTurns meaning scripts R0 (after_round (length scripts) called) first new before after (Err f)
  round_stops called count first new before after f l h = stops_within ((count + 1) ∷ after_round count called) (after_round (length scripts) called) first new before after f (round_within count (length scripts) called l) h

  pub round_over : (R : List Record) (called : List ℕ) (first now : Held D) (before after : Option (List ℕ)) (was run : Run) (made : Bool) → IsRound meaning scripts R0 R called (length scripts) first now before after was run made → HasGoneRound meaning scripts R0 called first now before after run (Ok made)
  round_over R called first now before after was run true h = h
  round_over R called first now before after was run false h = record { records = R; so_far = h.so_far; ended = λ w session. h.ended w session.from session.to }

  -- one that came to its end goes on too
  pub round_made : (called : List ℕ) (first now : Held D) (before after : Option (List ℕ)) (run : Run) (made : Bool) → made ≡ true → HasGoneRound meaning scripts R0 called first now before after run (Ok made) → IsOn meaning scripts R0 (after_round (length scripts) called) first now before after run
  round_made called first now before after run made e h = subst (λ (b : Bool). HasGoneRound meaning scripts R0 called first now before after run (Ok b)) e h

  -- the last one
  pub round_ends : (called : List ℕ) (k : ℕ) (first now : Held D) (before after : Option (List ℕ)) (run : Run) (made : Bool) → made ≡ false → HasGoneRound meaning scripts R0 (after_rounds (length scripts) k called) first now before after run (Ok made) → IsAtRest meaning scripts R0 called first now before after run
  round_ends called k first now before after run made e h = record { rounds = suc k; idle = subst (λ (b : Bool). HasGoneRound meaning scripts R0 (after_rounds (length scripts) k called) first now before after run (Ok b)) e h }

  pub round_halts : (called : List ℕ) (k : ℕ) (first now : Held D) (before after : Option (List ℕ)) (f : RunFault) → HasRunTurns meaning scripts R0 (after_round (length scripts) (after_rounds (length scripts) k called)) first now before after (Err f) → StopsInRounds meaning scripts R0 called first now before after f
  round_halts called k first now before after f h = record { rounds = suc k; stopped = h }

-- ---- loops

-- turns one after the other, so far: these after those that were taken
pub record KeepsOn {D : Type 0} (meaning : Meaning D) (scripts : List (List Statement)) (these : List ℕ → List ℕ) (old new : Held D) (mid after : Option (List ℕ)) (m n : ℕ) (was run : Run) : Type 0 where
  pub served : HasServed {A = Unit {0}} meaning old new m n (Ok tt)
  pub on : (R0 R : List Record) (called : List ℕ) (first : Held D) (before : Option (List ℕ)) → IsSoFar meaning scripts R0 R called first old before mid was → IsOn meaning scripts R0 (these called) first new before after run

pub keeps_none : {D : Type 0} (meaning : Meaning D) (scripts : List (List Statement)) (s : Held D) (mid : Option (List ℕ)) (n : ℕ) (run : Run) → s.fault ≡ None → KeepsOn meaning scripts (λ called. called) s s mid mid n n run run
keeps_none meaning scripts s mid n run unspent = record { served = served_same {A = Unit {0}} meaning s n tt unspent; on = λ R0 R called first before h. record { records = R; so_far = h } }

pub keeps_more : {D A : Type 0} (meaning : Meaning D) (scripts : List (List Statement)) (these next : List ℕ → List ℕ) (a b c : Held D) (x y z : Option (List ℕ)) (l m n : ℕ) (u v w : Run) (answer : A) → KeepsOn meaning scripts these a b x y l m u v → HasServed {A = A} meaning b c m n (Ok answer)
    → ((R0 R : List Record) (called : List ℕ) (first : Held D) (before : Option (List ℕ)) → IsSoFar meaning scripts R0 R (these called) first b before y v → IsOn meaning scripts R0 (next called) first c before z w) → KeepsOn meaning scripts next a c x z l n u w
keeps_more {D} {A} meaning scripts these next a b c x y z l m n u v w answer k served turn = record {
  served = served_on {A = Unit {0}} {B = Unit {0}} meaning a b c l m n tt (Ok tt) k.served (served_ok {A = A} {B = Unit {0}} meaning b c m n answer tt served);
  on = λ R0 R called first before h. (let on = k.on R0 R called first before h in turn R0 on.records called first before on.so_far);
}

-- the turns of an item
pub item_more : {D : Type 0} (meaning : Meaning D) (scripts : List (List Statement)) (who i : ℕ) (a b c : Held D) (x y z : Option (List ℕ)) (l m n : ℕ) (u v w : Run) (answer : Bool) → KeepsOn meaning scripts (λ called. after_item who i called) a b x y l m u v → HasServed {A = Bool} meaning b c m n (Ok answer)
    → ((R0 R : List Record) (called : List ℕ) (first : Held D) (before : Option (List ℕ)) → IsSoFar meaning scripts R0 R called first b before y v → HasTurned meaning scripts R0 R called who first c before z v w (Ok answer)) → KeepsOn meaning scripts (λ called. after_item who (i + 1) called) a c x z l n u w
item_more meaning scripts who i a b c x y z l m n u v w answer k served turn =
    keeps_more {A = Bool} meaning scripts (λ (called : List ℕ). after_item who i called) (λ (called : List ℕ). after_item who (i + 1) called) a b c x y z l m n u v w answer k served
    (λ R0 R called first before h. on_as meaning scripts R0 (who ∷ after_item who i called) (after_item who (i + 1) called) first c before z w (item_next who i called) (turned_on meaning scripts R0 R (after_item who i called) who first c before z v w answer (turn R0 R (after_item who i called) first before h)))

-- those of a schedule
pub schedule_begins : {D : Type 0} (meaning : Meaning D) (scripts : List (List Statement)) (ts : List Turns) (s : Held D) (mid : Option (List ℕ)) (n : ℕ) (run : Run) → s.fault ≡ None → KeepsOn meaning scripts (λ called. after_schedule (take 0 ts) called) s s mid mid n n run run
schedule_begins meaning scripts ts s mid n run unspent = record {
  served = served_same {A = Unit {0}} meaning s n tt unspent;
  on = λ R0 R called first before h. on_as meaning scripts R0 called (after_schedule (take 0 ts) called) first s before mid run (sym (schedule_none ts called)) (record { records = R; so_far = h });
}

pub schedule_more : {D : Type 0} (meaning : Meaning D) (scripts : List (List Statement)) (ts : List Turns) (i : ℕ) (none : Turns) (a b c : Held D) (x y z : Option (List ℕ)) (l m n : ℕ) (u v w : Run) → i < length ts → KeepsOn meaning scripts (λ called. after_schedule (take i ts) called) a b x y l m u v → HasServed {A = Unit {0}} meaning b c m n (Ok tt)
    → ((R0 R : List Record) (called : List ℕ) (first : Held D) (before : Option (List ℕ)) → IsSoFar meaning scripts R0 R called first b before y v → IsOn meaning scripts R0 (after_item (get_or ts i none).who (get_or ts i none).times called) first c before z w) → KeepsOn meaning scripts (λ called. after_schedule (take (i + 1) ts) called) a c x z l n u w
schedule_more meaning scripts ts i none a b c x y z l m n u v w lt k served turn =
    keeps_more {A = Unit {0}} meaning scripts (λ (called : List ℕ). after_schedule (take i ts) called) (λ (called : List ℕ). after_schedule (take (i + 1) ts) called) a b c x y z l m n u v w tt k served
    (λ R0 R called first before h. on_as meaning scripts R0 (after_item (get_or ts i none).who (get_or ts i none).times (after_schedule (take i ts) called)) (after_schedule (take (i + 1) ts) called) first c before z w (schedule_next ts i none called lt) (turn R0 R (after_schedule (take i ts) called) first before h))

-- those of rounds
pub rounds_more : {D : Type 0} (meaning : Meaning D) (scripts : List (List Statement)) (k : ℕ) (a b c : Held D) (x y z : Option (List ℕ)) (l m n : ℕ) (u v w : Run) (made : Bool) → made ≡ true → KeepsOn meaning scripts (λ called. after_rounds (length scripts) k called) a b x y l m u v → HasServed {A = Bool} meaning b c m n (Ok made)
    → ((R0 R : List Record) (called : List ℕ) (first : Held D) (before : Option (List ℕ)) → IsSoFar meaning scripts R0 R called first b before y v → HasGoneRound meaning scripts R0 called first c before z w (Ok made)) → KeepsOn meaning scripts (λ called. after_rounds (length scripts) (k + 1) called) a c x z l n u w
rounds_more meaning scripts k a b c x y z l m n u v w made e h served turn =
    keeps_more {A = Bool} meaning scripts (λ (called : List ℕ). after_rounds (length scripts) k called) (λ (called : List ℕ). after_rounds (length scripts) (k + 1) called) a b c x y z l m n u v w made h served
    (λ R0 R called first before so. on_as meaning scripts R0 (after_round (length scripts) (after_rounds (length scripts) k called)) (after_rounds (length scripts) (k + 1) called) first c before z w (rounds_next (length scripts) k called)
    (round_made meaning scripts R0 (after_rounds (length scripts) k called) first c before z w made e (turn R0 R (after_rounds (length scripts) k called) first before so)))

-- the turns of a round, so far
pub record GoesRound {D : Type 0} (meaning : Meaning D) (scripts : List (List Statement)) (count : ℕ) (old new : Held D) (mid after : Option (List ℕ)) (m n : ℕ) (was run : Run) (made : Bool) : Type 0 where
  pub served : HasServed {A = Unit {0}} meaning old new m n (Ok tt)
  pub round : (R0 R : List Record) (called : List ℕ) (first : Held D) (before : Option (List ℕ)) → IsSoFar meaning scripts R0 R called first old before mid was → IsRound meaning scripts R0 R called count first new before after was run made

pub round_none : {D : Type 0} (meaning : Meaning D) (scripts : List (List Statement)) (s : Held D) (mid : Option (List ℕ)) (n : ℕ) (run : Run) → s.fault ≡ None → GoesRound meaning scripts 0 s s mid mid n n run run false
round_none meaning scripts s mid n run unspent = record { served = served_same {A = Unit {0}} meaning s n tt unspent; round = λ R0 R called first before h. round_begins meaning scripts R0 R called first s before mid run h }

pub round_more : {D : Type 0} (meaning : Meaning D) (scripts : List (List Statement)) (count : ℕ) (a b c : Held D) (x y z : Option (List ℕ)) (l m n : ℕ) (u v w : Run) (made answer : Bool) → count + 1 ≤ length scripts → GoesRound meaning scripts count a b x y l m u v made → HasServed {A = Bool} meaning b c m n (Ok answer)
    → ((R0 R : List Record) (called : List ℕ) (first : Held D) (before : Option (List ℕ)) → IsSoFar meaning scripts R0 R called first b before y v → HasTurned meaning scripts R0 R called (count + 1) first c before z v w (Ok answer)) → GoesRound meaning scripts (count + 1) a c x z l n u w (made || answer)
round_more meaning scripts count a b c x y z l m n u v w made answer within k served turn = record {
  served = served_on {A = Unit {0}} {B = Unit {0}} meaning a b c l m n tt (Ok tt) k.served (served_ok {A = Bool} {B = Unit {0}} meaning b c m n answer tt served);
  round = λ R0 R called first before h. round_goes meaning scripts R0 R called count first b c before y z u v w made answer within (k.round R0 R called first before h) (λ Q these so. turn R0 Q these first before so);
}
