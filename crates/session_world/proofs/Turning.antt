-- What an event of a session does to the run that it is of.
use Rattle.std.proofs.Common.{◌≡◌, ◌≢◌, ℕ, suc, ◌-◌, ◌≤◌, List, length, get_or, set, Option, refl, sym, ◌∙◌, ap, subst, inl, inr, le_refl, arith}
use Rattle.std.specs.Prelude.{Result, Ok, Err, OnErr, IfOk, IfErr}
use Rattle.seg_words.proofs.Lemmas.{cases_eq}
use Rattle.seg_words.specs.Types.{Shape}
use Rattle.disk_model.specs.Crash.{Meaning}
use Rattle.redo_model.specs.Records.{Record}
use Rattle.session_laws.specs.Sessions.{own_of}
use Rattle.script_text.specs.declared.statement.Statement.{Statement}
use Rattle.history_model.specs.declared.history.HistoryItem.{HistoryItem}
use Rattle.history_model.specs.History.{IsSession}
use Rattle.session_model.specs.Sessions.{HasEnded, session_since}
use Rattle.session_model.specs.Done.{tidy_none}
use Rattle.session_model.specs.Worlds.{IsWorld}
use Rattle.store_core.specs.Store.{Held}
use Rattle.store_core.specs.Causes.{IsSoundFault}
use Rattle.store_core.specs.declared.fault.StoreFault.{StoreFault}
use Rattle.scan_table.specs.Places.{place}
use Rattle.scan_table.specs.declared.scan.OpenScan.{OpenScan}
use Rattle.session_core.specs.Scanned.{IsShaped}
use Rattle.session_core.specs.Located.{KeepsDoing}
use Rattle.session_core.specs.declared.dues.Dues.{Dues}
use Rattle.session_core.specs.declared.session.OpenShrink.{OpenShrink}
use Rattle.session_step.specs.declared.session.Session.{Session as Told}
use Rattle.session_step.specs.declared.session.Turn.{Turn}
use Rattle.session_step.specs.declared.session.Turn.TheVariants as turns
use Rattle.session_step.specs.Bindings.{row_of}
use Rattle.session_step.specs.Stages.{stage, StandsAt, session_at, IsHeld, AreOthersMarked}
use Rattle.session_step.specs.Telling.{begins_none, ends_none, Grows}
use Rattle.session_step.specs.Stepping.{HasStepped, HasRun, HasNothing, done_part}
use Rattle.session_world.specs.declared.events.Run.{Run}
use Rattle.session_world.specs.declared.seats.Seat.{Seat}
use Rattle.session_world.specs.Seats.{told_at, seen_in, AreShrinks}
use Rattle.session_world.specs.Between.{IsRunAt}
use Rattle.session_world.specs.Moving.{Turns, HasMoved}
use Rattle.session_world.proofs.Seating.{told_read, told_set, told_stays, seats_stay}
use Rattle.session_world.proofs.Marking.{shaped_on, held_on, seen_on}
use Rattle.session_world.proofs.Shrinking.{open_now}

-- ---- before an event

pub stands_at : {D : Type 0} (meaning : Meaning D) (scripts : List (List Statement)) (R0 R : List Record) (who : ℕ) (s : Held D) (run : Run) (ks : List OpenShrink) (t : Told) (dues : Dues) → IsSession scripts who → AreShrinks run.seats.items who (length run.seats.items) ks → told_at run.seats.items who ≡ t → IsRunAt meaning scripts R0 R s run
    → StandsAt meaning scripts R0 R (seen_in run.seats.items run.scans) who (stage s run.history run.scans ks run.labels dues t)
stands_at meaning scripts R0 R who s run ks t dues session shrinks is at = record {
  stands = at.stands;
  session = session;
  world = at.world;
  shrinks = open_now scripts run.seats.items run.scans who ks at.seats shrinks;
  is = ap (session_at (place who run.scans)) is;
  own = at.own who session ∙ ap (λ (z : Told). z.own) is;
  shaped = at.shaped who session;
  held = subst (λ (z : Told). IsHeld (place who run.scans) z.doing) is (at.held who session);
  located = subst (λ (own : Option ℕ). KeepsDoing s.shape R own t.doing) (at.own who session ∙ ap (λ (z : Told). z.own) is) (subst (λ (z : Told). KeepsDoing s.shape R (own_of R who) z.doing) is (at.located who session));
}

-- ---- after one

-- what an event of session who changed of the seats: its own alone
pub record Moves (who : ℕ) (was run : Run) (s t : Told) : Type 0 where
  pub before : told_at was.seats.items who ≡ s
  pub after : told_at run.seats.items who ≡ t
  pub seats : (v : ℕ) → 1 ≤ v → v ≢ who → told_at run.seats.items v ≡ told_at was.seats.items v
  pub count : length run.seats.items ≡ length was.seats.items

-- where its seat was set
pub seat_moves : (who n : ℕ) (was run : Run) (before after : Seat) → n ≡ who → 1 ≤ who → who ≤ length was.seats.items → before ≡ get_or was.seats.items (n - 1) before → run.seats.items ≡ set was.seats.items (n - 1) after
    → Moves who was run before.session after.session
seat_moves who n was run before after is from to read now = record {
  before = told_read was.seats.items n who before is from to read;
  after = ap (λ (xs : List Seat). told_at xs who) now ∙ told_set was.seats.items n who after is from to;
  seats = λ v v_from ne. ap (λ (xs : List Seat). told_at xs v) now ∙ told_stays was.seats.items n v who after is v_from from ne;
  count = ap (λ (xs : List Seat). length xs) now ∙ seats_stay was.seats.items n after;
}

module _ {D : Type 0} (meaning : Meaning D) (scripts : List (List Statement)) (R0 R : List Record) (who : ℕ) (old new : Held D) (was run : Run) (s t : Told) (ks : List OpenShrink) (a_dues b_dues : Dues) (session : IsSession scripts who) (at : IsRunAt meaning scripts R0 R old was) (moves : Moves who was run s t) (shape : new.shape ≡ old.shape) where
  -- of each session: the one whose event it was, or another
  each : (P : ℕ → Type 0) → P who → ((v : ℕ) → IsSession scripts v → v ≢ who → P v) → (v : ℕ) → IsSession scripts v → P v
  each P own others v v_session = elim (cases_eq v who) [
    | inl e ↦ subst P (sym e) own
    | inr ne ↦ others v v_session ne
  ]

  -- another session's place, after an event with these records
  abbrev Marks : List Record → Type 0
  Marks records = AreOthersMarked who (length R) records was.scans run.scans

  seen_other : (records : List Record) → Marks records → (v : ℕ) → IsSession scripts v → v ≢ who → seen_in run.seats.items run.scans v ≡ session_since old.shape (length R) records (seen_in was.seats.items was.scans v)
  seen_other records marks v v_session ne =
      ap (λ (z : Told). session_at (place v run.scans) z) (moves.seats v v_session.from ne) ∙ ap (λ (p : Option OpenScan). session_at p (told_at was.seats.items v)) (marks v v_session.from ne)
      ∙ seen_on old.shape (length R) records (place v was.scans) (told_at was.seats.items v) (at.shaped v v_session) (at.held v v_session)

  shaped_other : (records : List Record) → Marks records → (v : ℕ) → IsSession scripts v → v ≢ who → IsShaped new.shape (place v run.scans)
  shaped_other records marks v v_session ne =
      subst (λ (sh : Shape). IsShaped sh (place v run.scans)) (sym shape) (subst (λ (p : Option OpenScan). IsShaped old.shape p) (sym (marks v v_session.from ne)) (shaped_on old.shape (length R) records (place v was.scans) (at.shaped v v_session)))

  held_other : (records : List Record) → Marks records → (v : ℕ) → IsSession scripts v → v ≢ who → IsHeld (place v run.scans) (told_at run.seats.items v).doing
  held_other records marks v v_session ne =
      subst (λ (z : Told). IsHeld (place v run.scans) z.doing) (sym (moves.seats v v_session.from ne))
      (subst (λ (p : Option OpenScan). IsHeld p (told_at was.seats.items v).doing) (sym (marks v v_session.from ne)) (held_on (length R) records (place v was.scans) (told_at was.seats.items v).doing (at.held v v_session)))

  -- the run after an event that didn't fail
  run_after : (h : HasRun meaning scripts R0 R (seen_in was.seats.items was.scans) who (stage old was.history was.scans ks was.labels a_dues s) (stage new run.history run.scans ks run.labels b_dues t) (Ok tt)) → IsRunAt meaning scripts R0 h.records new run
  run_after h = record {
    stands = h.stands;
    seats = moves.count ∙ at.seats;
    world = subst (λ (sh : Shape). IsWorld sh scripts R0 h.records run.history (seen_in run.seats.items run.scans) (row_of run.labels)) (sym shape)
        (h.world (seen_in run.seats.items run.scans) (record { own = ap (session_at (place who run.scans)) moves.after; others = λ v v_session ne. seen_other h.records h.marks v v_session ne }));
    own = each (λ v. own_of h.records v ≡ (told_at run.seats.items v).own) (h.own ∙ ap (λ (z : Told). z.own) (sym moves.after))
        (λ v v_session ne. h.others v ne ∙ at.own v v_session ∙ ap (λ (z : Told). z.own) (sym (moves.seats v v_session.from ne)));
    shaped = each (λ v. IsShaped new.shape (place v run.scans)) (subst (λ (sh : Shape). IsShaped sh (place who run.scans)) (sym shape) h.shaped)
        (shaped_other h.records h.marks);
    held = each (λ v. IsHeld (place v run.scans) (told_at run.seats.items v).doing) (subst (λ (z : Told). IsHeld (place who run.scans) z.doing) (sym moves.after) h.held)
        (held_other h.records h.marks);
    located = each (λ v. KeepsDoing new.shape h.records (own_of h.records v) (told_at run.seats.items v).doing)
        (subst (λ (sh : Shape). KeepsDoing sh h.records (own_of h.records who) (told_at run.seats.items who).doing) (sym shape)
        (subst (λ (z : Told). KeepsDoing old.shape h.records (own_of h.records who) z.doing) (sym moves.after) (subst (λ (own : Option ℕ). KeepsDoing old.shape h.records own t.doing) (sym h.own) h.located)))
        (λ v v_session ne. subst (λ (sh : Shape). KeepsDoing sh h.records (own_of h.records v) (told_at run.seats.items v).doing) (sym shape)
        (subst (λ (z : Told). KeepsDoing old.shape h.records (own_of h.records v) z.doing) (sym (moves.seats v v_session.from ne)) (h.others_located v (told_at was.seats.items v).doing ne (at.located v v_session))));
    in_time = h.in_time at.in_time;
  }

  ended : (records : List Record) → IsRunAt meaning scripts R0 records new run → HasNothing scripts R records who (stage old was.history was.scans ks was.labels a_dues s) (stage new run.history run.scans ks run.labels b_dues t) → Turns meaning scripts R0 R records who new was run turns.Ended
  ended records now h = (
    record {
      at = subst (λ (Q : List Record). IsRunAt meaning scripts R0 Q new run) h.records now;
      same = h.same.history;
      ended = λ w. subst (λ (T : List HistoryItem). HasEnded scripts R T who) (sym h.same.history) h.ended;
    },
    h.records,
  )

  -- what an answer says of the run
  turns_of : (r : Result Turn StoreFault) (h : HasStepped meaning scripts R0 R (seen_in was.seats.items was.scans) who (stage old was.history was.scans ks was.labels a_dues s) (stage new run.history run.scans ks run.labels b_dues t) r) → IfOk r (Turns meaning scripts R0 R h.run.records who new was run)
  turns_of (Ok turns.Made) h = run_after h.run
  turns_of (Ok turns.Ended) h = ended h.run.records (run_after h.run) h.turn
  turns_of (Err f) h = tt

  sound_of : (r : Result Turn StoreFault) → IfErr (done_part r) IsSoundFault → IfErr r IsSoundFault
  sound_of (Ok turn) h = tt
  sound_of (Err f) h = h

  untold_of : (r : Result Turn StoreFault) → OnErr (done_part r) (t.told ≡ s.told) → OnErr r ((told_at run.seats.items who).told ≡ (told_at was.seats.items who).told)
  untold_of (Ok turn) h = tt
  untold_of (Err f) h = ap (λ (z : Told). z.told) moves.after ∙ h ∙ ap (λ (z : Told). z.told) (sym moves.before)

  grown : Grows s t was.history run.history → Grows (told_at was.seats.items who) (told_at run.seats.items who) was.history run.history
  grown g = subst (λ (z : Told). Grows z (told_at run.seats.items who) was.history run.history) (sym moves.before) (subst (λ (z : Told). Grows s z was.history run.history) (sym moves.after) g)

  pub moved : (r : Result Turn StoreFault) → Grows s t was.history run.history
      → HasStepped meaning scripts R0 R (seen_in was.seats.items was.scans) who (stage old was.history was.scans ks was.labels a_dues s) (stage new run.history run.scans ks run.labels b_dues t) r → HasMoved meaning scripts R0 R who old new was run r
  moved r grows h = record {
    records = h.run.records;
    stands = h.run.stands;
    shape = shape;
    legal = h.run.legal;
    in_time = h.run.in_time at.in_time;
    grows = grown grows;
    entry = λ e. h.run.entry (ap (λ (z : Told). z.told) (sym moves.after) ∙ e ∙ ap (λ (z : Told). suc z.told) moves.before);
    untold = untold_of r h.run.untold;
    survives = h.run.survives;
    time = h.run.time;
    turns = turns_of r h;
    makes = h.makes;
    sound = sound_of r h.run.sound;
  }

-- ---- no event

-- nothing was done, for a number that no session has
pub unmoved : {D : Type 0} (meaning : Meaning D) (scripts : List (List Statement)) (R0 R : List Record) (who : ℕ) (s : Held D) (run : Run) → (IsSession scripts who → ⊥) → IsRunAt meaning scripts R0 R s run → HasMoved meaning scripts R0 R who s s run run (Ok turns.Ended)
unmoved meaning scripts R0 R who s run none at = record {
  records = R;
  stands = at.stands;
  shape = refl;
  legal = at.world.legal;
  in_time = at.in_time;
  grows = record { begun = run.history; begins = begins_none; ends = ends_none };
  entry = λ e. absurd (omega (arith, e));
  untold = tt;
  survives = λ since needed h. h;
  time = le_refl (meaning.clock s.disk);
  turns = (record { at = at; same = refl; ended = λ w. absurd (none w) }, refl);
  makes = (refl, refl);
  sound = tt;
}

-- nor where there was no memory
pub failed_before : {D : Type 0} (meaning : Meaning D) (scripts : List (List Statement)) (R0 R : List Record) (who : ℕ) (s : Held D) (run : Run) (f : StoreFault) → IsSoundFault f → IsRunAt meaning scripts R0 R s run → HasMoved meaning scripts R0 R who s s run run (Err f)
failed_before meaning scripts R0 R who s run f sound at = record {
  records = R;
  stands = at.stands;
  shape = refl;
  legal = at.world.legal;
  in_time = at.in_time;
  grows = record { begun = run.history; begins = begins_none; ends = ends_none };
  entry = λ e. absurd (omega (arith, e));
  untold = refl;
  survives = λ since needed h. h;
  time = le_refl (meaning.clock s.disk);
  turns = tt;
  makes = inl (refl, tidy_none);
  sound = sound;
}
