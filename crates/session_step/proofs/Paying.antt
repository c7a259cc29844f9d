-- What a session owes, settled before its next statement.
use Rattle.std.proofs.Common.{◌≡◌, ℕ, true, false, List, [], ◌∷◌, length, Option, refl, sym, ◌∙◌, ap, ap₂, subst, le_trans, inl, inr}
use Rattle.std.specs.Prelude.{Ok, Err, Result, IfErr, OnOk, OnErr}
use Rattle.seg_words.specs.Types.{Shape}
use Rattle.disk_model.specs.Crash.{Meaning}
use Rattle.redo_model.specs.Records.{Record}
use Rattle.redo_model.specs.Model.{IsLawful}
use Rattle.session_laws.specs.Sessions.{own_of}
use Rattle.script_text.specs.declared.statement.Statement.{Statement}
use Rattle.history_model.specs.declared.history.HistoryItem.{HistoryItem}
use Rattle.history_model.specs.History.{IsSession}
use Rattle.history_model.specs.Legal.{IsLegal}
use Rattle.session_model.specs.Sessions.{Session}
use Rattle.session_model.specs.Worlds.{IsWorld, IsNext}
use Rattle.session_model.proofs.Settling.{settlings_keep}
use Rattle.store_core.specs.Store.{Held, IsTrue}
use Rattle.store_core.specs.Survives.{Survives}
use Rattle.store_core.specs.Causes.{IsSoundFault}
use Rattle.store_core.specs.declared.fault.StoreFault.{StoreFault}
use Rattle.scan_table.specs.Places.{place}
use Rattle.session_core.specs.declared.dues.Dues.{Dues}
use Rattle.session_core.specs.Acting.{HasCalled}
use Rattle.session_core.specs.Located.{KeepsDoing}
use Rattle.session_core.specs.Owing.{HasTidied, HasSettledFirst, AreDropped, SettlesFirst}
use Rattle.session_core.specs.Scanned.{IsShaped}
use Rattle.session_core.proofs.Located.{settlings_keep_places}
use Rattle.session_step.specs.declared.session.Turn.{Turn}
use Rattle.session_step.specs.declared.session.Turn.TheVariants as turns
use Rattle.session_step.specs.Bindings.{row_of}
use Rattle.session_step.specs.Stages.{Stage, StandsAt, session_at}
use Rattle.session_step.specs.Events.{SettlesOne, TurnMakes}
use Rattle.session_step.specs.Stepping.{HasRun, HasPaidStep, HasStepped, Owes, unowed}
use Rattle.session_step.proofs.Running.{always, later_in_time}
use Rattle.session_step.proofs.Steps.{settled_to, world_as, same_next, not_more}
use Rattle.session_step.proofs.Unmarked.{others_same, tidied_own, tidied_releases_none}

-- the first of the blocks that are left was settled
settles_first : (sh : Shape) (scripts : List (List Statement)) (w : ℕ) (Q R : List Record) (T : List HistoryItem) (es : List (ℕ × ℕ)) → IsSession scripts w → SettlesFirst sh Q R es true → SettlesOne sh scripts w Q T R T
settles_first sh scripts w Q R T [] session h = absurd h
settles_first sh scripts w Q R T (e ∷ es) session h = record { session = session; obj = e.1; dba = e.0; needs = h.0; settles = h.1; same = refl }

module _ {D : Type 0} (meaning : Meaning D) (scripts : List (List Statement)) (R0 R : List Record) (sessions : ℕ → Session) (w : ℕ) (a : Stage D) (s : Held D) (d : Dues) where
  -- ---- a block was settled, or the settling failed

  abbrev pub settled_run : (r : Result (Unit {0}) StoreFault) (t : HasTidied meaning R a.store s) → s.shape ≡ a.store.shape → StandsAt meaning scripts R0 R sessions w a → IfErr r IsSoundFault → HasRun meaning scripts R0 R sessions w a (settled_to a s d) r
  settled_run r t shape h sound = record {
    records = t.records;
    stands = t.stands;
    stable = t.stable;
    survives = t.survives;
    time = t.time;
    legal = kept.legal;
    world = always r (λ next is. world_as a.store.shape scripts R0 t.records a.history sessions next (row_of a.labels) (same_next a.store.shape scripts w (length R) t.records sessions next (session_at (place w a.scans) a.session) (tidied_releases_none R t.records t.tidied) h.is is) kept);
    own = always r (tidied_own R t.records w t.tidied ∙ h.own);
    shaped = h.shaped;
    held = always r h.held;
    located = always r (settlings_keep_places a.store.shape R t.records a.session.own a.session.doing t.tidied h.located);
    marks = others_same w (length R) t.records a.scans a.scans (tidied_releases_none R t.records t.tidied) (λ v from ne. refl);
    others = λ v ne. tidied_own R t.records v t.tidied;
    others_located = λ v e ne l. subst (λ (o : Option ℕ). KeepsDoing a.store.shape t.records o e) (sym (tidied_own R t.records v t.tidied)) (settlings_keep_places a.store.shape R t.records (own_of R v) e t.tidied l);
    in_time = λ z. later_in_time (meaning.clock a.store.disk) (meaning.clock s.disk) a.history t.time z;
    entry = λ y. not_more a.session.told _ y;
    untold = untold r;
    sound = sound;
  }
    where
      lawful : IsLawful a.store.shape t.records
      lawful = subst (λ (z : Shape). IsLawful z t.records) shape t.stands.lawful

      kept : IsWorld a.store.shape scripts R0 t.records a.history sessions (row_of a.labels)
      kept = settlings_keep a.store.shape scripts R0 R t.records a.history sessions (row_of a.labels) lawful t.tidied h.world

      untold : (r : Result (Unit {0}) StoreFault) → OnErr r (a.session.told ≡ a.session.told)
      untold (Ok z) = tt
      untold (Err f) = refl

  pub step_paid_one : (t : HasSettledFirst meaning R a.dues.owed d.owed a.store s (Ok true)) → d.noted ≡ a.dues.noted → s.shape ≡ a.store.shape → StandsAt meaning scripts R0 R sessions w a → HasStepped meaning scripts R0 R sessions w a (settled_to a s d) (Ok turns.Made)
  step_paid_one t noted shape h = record {
    run = settled_run (Ok tt) t.tidies shape h tt;
    turn = inl (record { same = record { history = refl; scans = refl; labels = refl; session = refl }; dropped = t.dropped; noted = noted; first = t.first });
    makes = inl (settles_first a.store.shape scripts w R t.tidies.records a.history d.owed h.session t.first);
  }

  pub step_unpaid : (f : StoreFault) → HasSettledFirst meaning R a.dues.owed d.owed a.store s (Err f) → s.shape ≡ a.store.shape → StandsAt meaning scripts R0 R sessions w a → HasStepped meaning scripts R0 R sessions w a (settled_to a s d) (Err f)
  step_unpaid f t shape h = record { run = settled_run (Err f) t.tidies shape h t.sound; turn = tt; makes = inl (refl, t.tidies.tidied) }

  -- ---- no block called for anything

  pub paid_stands : HasSettledFirst meaning R a.dues.owed d.owed a.store s (Ok false) → s.shape ≡ a.store.shape → StandsAt meaning scripts R0 R sessions w a → StandsAt meaning scripts R0 R sessions w (settled_to a s d)
  paid_stands t shape h = record {
    stands = subst (λ (S : List Record). IsTrue meaning S s) t.first.1 t.tidies.stands;
    session = h.session;
    world = subst (λ (z : Shape). IsWorld z scripts R0 R a.history sessions (row_of a.labels)) (sym shape) h.world;
    shrinks = h.shrinks;
    is = h.is;
    own = h.own;
    shaped = subst (λ (z : Shape). IsShaped z (place w a.scans)) (sym shape) h.shaped;
    held = h.held;
    located = subst (λ (z : Shape). KeepsDoing z R a.session.own a.session.doing) (sym shape) h.located;
  }

  -- and then the session's own event
  abbrev pub run_after : (b : Stage D) (r : Result (Unit {0}) StoreFault) → HasSettledFirst meaning R a.dues.owed d.owed a.store s (Ok false) → s.shape ≡ a.store.shape → HasRun meaning scripts R0 R sessions w (settled_to a s d) b r → HasRun meaning scripts R0 R sessions w a b r
  run_after b r t shape h = record {
    records = h.records;
    stands = h.stands;
    stable = le_trans t.tidies.stable h.stable;
    survives = λ since needed v. h.survives since needed (subst (λ (S : List Record). Survives meaning since needed S s) t.first.1 (t.tidies.survives since needed v));
    time = le_trans t.tidies.time h.time;
    legal = subst (λ (z : Shape). IsLegal z scripts R0 h.records b.history) shape h.legal;
    world = subst (λ (z : Shape). OnOk r ((next : ℕ → Session) → IsNext z scripts w (length R) h.records sessions next (session_at (place w b.scans) b.session) → IsWorld z scripts R0 h.records b.history next (row_of b.labels))) shape h.world;
    own = h.own;
    shaped = subst (λ (z : Shape). IsShaped z (place w b.scans)) shape h.shaped;
    held = h.held;
    located = subst (λ (z : Shape). OnOk r (KeepsDoing z h.records b.session.own b.session.doing)) shape h.located;
    marks = h.marks;
    others = h.others;
    others_located = λ v e ne l. subst (λ (z : Shape). KeepsDoing z h.records (own_of h.records v) e) shape (h.others_located v e ne (subst (λ (z : Shape). KeepsDoing z R (own_of R v) e) (sym shape) l));
    in_time = λ z. h.in_time (later_in_time (meaning.clock a.store.disk) (meaning.clock s.disk) a.history t.tidies.time z);
    entry = h.entry;
    untold = h.untold;
    sound = h.sound;
  }

  -- nothing is owed any more
  paid_all : HasSettledFirst meaning R a.dues.owed d.owed a.store s (Ok false) → AreDropped a.store.shape R a.dues.owed []
  paid_all t = subst (λ (es : List (ℕ × ℕ)). AreDropped a.store.shape R a.dues.owed es) t.first.0 t.dropped

  none_owed : HasSettledFirst meaning R a.dues.owed d.owed a.store s (Ok false) → d.noted ≡ a.dues.noted → d ≡ unowed a.dues
  none_owed t noted = ap₂ (λ (es ns : List (ℕ × ℕ)). dues es ns) t.first.0 noted
    where
      dues : List (ℕ × ℕ) → List (ℕ × ℕ) → Dues
      dues es ns = record { owed = es; noted = ns }

  pub step_after : (b : Stage D) (r : Result Turn StoreFault) → HasSettledFirst meaning R a.dues.owed d.owed a.store s (Ok false) → d.noted ≡ a.dues.noted → s.shape ≡ a.store.shape → HasPaidStep meaning scripts R0 R sessions w (settled_to a s d) b r → HasStepped meaning scripts R0 R sessions w a b r
  step_after b (Ok turns.Made) t noted shape h = record {
    run = run_after b (Ok tt) t shape h.run;
    turn = inr (record { more = h.turn.0; paid = paid_all t; owes = subst (λ (e : Dues). Owes e b.dues b.session.own) (none_owed t noted) h.turn.1 });
    makes = subst (λ (z : Shape). TurnMakes z scripts w R a.history h.run.records b.history (Ok turns.Made)) shape h.makes;
  }
  step_after b (Ok turns.Ended) t noted shape h = record {
    run = run_after b (Ok tt) t shape h.run;
    turn = record {
      ended = h.turn.0;
      same = record { history = h.turn.1.history; scans = h.turn.1.scans; labels = h.turn.1.labels; session = h.turn.1.session };
      paid = paid_all t;
      owed = ap (λ (e : Dues). e.owed) h.turn.2 ∙ t.first.0;
      records = h.turn.3;
    };
    makes = h.makes;
  }
  step_after b (Err f) t noted shape h = record {
    run = run_after b (Err f) t shape h.run;
    turn = tt;
    makes = subst (λ (z : Shape). TurnMakes z scripts w R a.history h.run.records b.history (Err f)) shape h.makes;
  }

-- the store was called, and another answer is given
pub called_plain : {D A T : Type 0} (meaning : Meaning D) (a b : Held D) (x : A) (y : T) → HasCalled {T = A} meaning a b (Ok x) → HasCalled {T = T} meaning a b (Ok y)
called_plain meaning a b x y h = record { loan = h.loan; device = λ e. absurd (cc e); kept = h.kept }
