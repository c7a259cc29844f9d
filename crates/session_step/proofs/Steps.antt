-- One event of a session in a run.
use Rattle.std.proofs.Common.{◌≡◌, ◌≢◌, ◌⊎◌, ℕ, suc, ◌≤◌, ◌<◌, eqb, eqb-true, List, ◌∷◌, length, Option, None, refl, sym, ◌∙◌, ap, subst, le_refl, inl, inr, arith}
use Rattle.std.specs.Prelude.{Ok, Err, Result, OnErr}
use Rattle.seg_words.proofs.Lemmas.{cases_Bool, eqb-false}
use Rattle.seg_words.specs.Types.{Shape}
use Rattle.disk_model.specs.Crash.{Meaning}
use Rattle.redo_model.specs.Records.{Record}
use Rattle.session_laws.specs.Sessions.{own_of}
use Rattle.script_text.specs.declared.statement.Statement.{Statement}
use Rattle.history_model.specs.declared.history.HistoryItem.{HistoryItem}
use Rattle.history_model.specs.declared.history.HistoryItem.TheVariants as item
use Rattle.history_model.specs.History.{IsSession, Task, task_of, script_of, under_way, AreInTime}
use Rattle.history_laws.specs.Telling.{start_now}
use Rattle.session_model.specs.Done.{tidy_none}
use Rattle.session_model.specs.Doings.{Doing, Waiting, ShrinksOn}
use Rattle.session_model.specs.Sessions.{Session, WayFits, Fits, HasEnded}
use Rattle.session_model.specs.Worlds.{IsWorld, IsNext, Midway}
use Rattle.session_model.specs.Laws.{started}
use Rattle.session_model.proofs.Events.{statements_start, statements_go_on, sessions_end, ended_sessions}
use Rattle.store_core.specs.Store.{Held}
use Rattle.store_core.specs.declared.fault.StoreFault.{StoreFault}
use Rattle.store_core.specs.declared.fault.StoreFault.TheVariants.{NoMemory}
use Rattle.scan_table.specs.declared.scan.OpenScan.{OpenScan}
use Rattle.scan_table.specs.Places.{place}
use Rattle.session_core.specs.declared.session.Doing.{Doing as ToldDoing}
use Rattle.session_core.specs.declared.session.Doing.TheVariants as told
use Rattle.session_core.specs.declared.dues.Dues.{Dues}
use Rattle.session_core.specs.Located.{KeepsDoing}
use Rattle.session_core.specs.Scanned.{doing_at}
use Rattle.session_step.specs.declared.session.Session.{Session as Told}
use Rattle.session_step.specs.declared.session.Turn.{Turn}
use Rattle.session_step.specs.declared.session.Turn.TheVariants as turns
use Rattle.session_step.specs.Bindings.{row_of}
use Rattle.session_step.specs.Stages.{Stage, IsHeld, IsMidway, StandsAt, session_at}
use Rattle.session_step.specs.Telling.{Begins, Ends, Grows, GoesOnWith, IsDone, IsStarted, begins_none, ends_none}
use Rattle.session_step.specs.Events.{Opens, opens_new, opens_on}
use Rattle.session_step.specs.Stepping.{HasRun, HasRunOn, HasPaidStep, Owes}
use Rattle.session_step.proofs.Unmarked.{NoneGone, none_gone, others_same, session_same}

-- ---- stages

-- with this history and session
abbrev pub begun : {D : Type 0} → Stage D → List HistoryItem → Told → Stage D
begun a U u = record { store = a.store; history = U; scans = a.scans; shrinks = a.shrinks; labels = a.labels; dues = a.dues; session = u }

-- with this store, and this to settle
abbrev pub settled_to : {D : Type 0} → Stage D → Held D → Dues → Stage D
settled_to a s d = record { store = s; history = a.history; scans = a.scans; shrinks = a.shrinks; labels = a.labels; dues = d; session = a.session }

-- ---- what a session is at

waiting_at : (p : Option OpenScan) (d : ToldDoing) → d ≡ told.Waiting → doing_at p d ≡ Waiting
waiting_at p d e = ap (λ (z : ToldDoing). doing_at p z) e

busy_at : (p : Option OpenScan) (d : ToldDoing) → d ≢ told.Waiting → doing_at p d ≢ Waiting
busy_at p told.Waiting ne e = ne refl
busy_at p (told.Inserting o) ne e = absurd (cc e)
busy_at p (told.TakingBack t) ne e = absurd (cc e)
busy_at p (told.OnRow k) ne e = absurd (cc e)
busy_at p told.Scanning ne e = absurd (cc e)
busy_at p (told.Repairing w) ne e = absurd (cc e)
busy_at p (told.Shrinking w) ne e = absurd (cc e)
busy_at p (told.Lowering w) ne e = absurd (cc e)

is_waiting : (d : ToldDoing) → (d ≡ told.Waiting) ⊎ (d ≢ told.Waiting)
is_waiting told.Waiting = inl refl
is_waiting (told.Inserting o) = inr (λ e. absurd (cc e))
is_waiting (told.TakingBack t) = inr (λ e. absurd (cc e))
is_waiting (told.OnRow k) = inr (λ e. absurd (cc e))
is_waiting told.Scanning = inr (λ e. absurd (cc e))
is_waiting (told.Repairing w) = inr (λ e. absurd (cc e))
is_waiting (told.Shrinking w) = inr (λ e. absurd (cc e))
is_waiting (told.Lowering w) = inr (λ e. absurd (cc e))

-- ---- the sessions are as they were

pub world_as : (sh : Shape) (scripts : List (List Statement)) (R0 R : List Record) (T : List HistoryItem) (sessions next : ℕ → Session) (labels : List ℕ → Option ℕ) → ((v : ℕ) → IsSession scripts v → next v ≡ sessions v) → IsWorld sh scripts R0 R T sessions labels → IsWorld sh scripts R0 R T next labels
world_as sh scripts R0 R T sessions next labels e h = record {
  legal = h.legal;
  fit = λ v session. subst (Fits sh scripts R T v) (sym (e v session)) (h.fit v session);
  alone = λ v w o sv sw a b. h.alone v w o sv sw (subst (λ (z : Session). ShrinksOn z.doing o) (e v sv) a) (subst (λ (z : Session). ShrinksOn z.doing o) (e w sw) b);
  known = h.known;
  labelled = h.labelled;
}

pub same_next : (sh : Shape) (scripts : List (List Statement)) (w n : ℕ) (R : List Record) (sessions next : ℕ → Session) (s : Session) → NoneGone n R → sessions w ≡ s → IsNext sh scripts w n R sessions next s → (v : ℕ) → IsSession scripts v → next v ≡ sessions v
same_next sh scripts w n R sessions next s g at is v session = elim (cases_Bool (eqb v w)) [
  | inl y ↦ subst (λ (z : ℕ). next z ≡ sessions z) (sym (eqb-true v w y)) (is.own ∙ sym at)
  | inr y ↦ is.others v session (eqb-false v w y) ∙ session_same sh n R (sessions v) g
]

pub not_more : (n : ℕ) (P : Type 0) → n ≡ suc n → P
not_more n P e = absurd (omega (arith, e))

-- ---- nothing was done

module _ {D : Type 0} (meaning : Meaning D) (scripts : List (List Statement)) (R0 R : List Record) (sessions : ℕ → Session) (w : ℕ) (a : Stage D) where
  abbrev pub unchanged_run : StandsAt meaning scripts R0 R sessions w a → HasRun meaning scripts R0 R sessions w a a (Ok tt)
  unchanged_run h = record {
    records = R;
    stands = h.stands;
    stable = le_refl _;
    survives = λ since needed x. x;
    time = le_refl _;
    legal = h.world.legal;
    world = λ next is. world_as a.store.shape scripts R0 R a.history sessions next (row_of a.labels) (same_next a.store.shape scripts w (length R) R sessions next (session_at (place w a.scans) a.session) (none_gone R) h.is is) h.world;
    own = h.own;
    shaped = h.shaped;
    held = h.held;
    located = h.located;
    marks = others_same w (length R) R a.scans a.scans (none_gone R) (λ v from ne. refl);
    others = λ v ne. refl;
    others_located = λ v d ne k. k;
    in_time = λ z. z;
    entry = λ y. not_more a.session.told _ y;
    untold = tt;
    sound = tt;
  }

  ended_same : StandsAt meaning scripts R0 R sessions w a → HasEnded scripts R a.history w → HasPaidStep meaning scripts R0 R sessions w a a (Ok turns.Ended)
  ended_same h ended = record { run = unchanged_run h; turn = (ended, record { history = refl; scans = refl; labels = refl; session = refl }, refl, refl); makes = (refl, refl) }

  failed_same : StandsAt meaning scripts R0 R sessions w a → HasPaidStep meaning scripts R0 R sessions w a a (Err NoMemory)
  failed_same h = record {
    run = record {
      records = R;
      stands = h.stands;
      stable = le_refl _;
      survives = λ since needed x. x;
      time = le_refl _;
      legal = h.world.legal;
      world = tt;
      own = tt;
      shaped = h.shaped;
      held = tt;
      located = tt;
      marks = others_same w (length R) R a.scans a.scans (none_gone R) (λ v from ne. refl);
      others = λ v ne. refl;
      others_located = λ v d ne k. k;
      in_time = λ z. z;
      entry = λ y. not_more a.session.told _ y;
      untold = refl;
      sound = tt;
    };
    turn = tt;
    makes = inl (refl, tidy_none);
  }

  as_begun : (U : List HistoryItem) (u : Told) (r : Result Turn StoreFault) → U ≡ a.history → u ≡ a.session → HasPaidStep meaning scripts R0 R sessions w a a r → HasPaidStep meaning scripts R0 R sessions w a (begun a U u) r
  as_begun U u r same stay h = subst (λ (Z : List HistoryItem). HasPaidStep meaning scripts R0 R sessions w a (begun a Z u) r) (sym same) (subst (λ (z : Told). HasPaidStep meaning scripts R0 R sessions w a (begun a a.history z) r) (sym stay) h)

  pub step_failed : (U : List HistoryItem) (u : Told) → U ≡ a.history → u ≡ a.session → StandsAt meaning scripts R0 R sessions w a → HasPaidStep meaning scripts R0 R sessions w a (begun a U u) (Err NoMemory)
  step_failed U u same stay h = as_begun U u (Err NoMemory) same stay (failed_same h)

  told_at : StandsAt meaning scripts R0 R sessions w a → (sessions w).told ≡ a.session.told
  told_at h = ap (λ (z : Session). z.told) h.is

  doing_is : StandsAt meaning scripts R0 R sessions w a → (sessions w).doing ≡ doing_at (place w a.scans) a.session.doing
  doing_is h = ap (λ (z : Session). z.doing) h.is

  pub step_ended : (script : List Statement) (U : List HistoryItem) (u : Told) → U ≡ a.history → u ≡ a.session → script_of scripts w ≡ script → IsDone (length script) a.session → StandsAt meaning scripts R0 R sessions w a → HasPaidStep meaning scripts R0 R sessions w a (begun a U u) (Ok turns.Ended)
  step_ended script U u same stay e done h = as_begun U u (Ok turns.Ended) same stay (ended_same h
      (sessions_end a.store.shape scripts R0 R a.history sessions (row_of a.labels) w h.session h.world (doing_is h ∙ waiting_at (place w a.scans) a.session.doing done.waits)
      (subst (λ (n : ℕ). length (script_of scripts w) ≤ n) (sym (told_at h)) (subst (λ (z : List Statement). length z ≤ a.session.told) (sym e) done.all_told)) (h.own ∙ done.none)))

  -- a session with more entries than statements was told its end
  pub step_past : (script : List Statement) → length script < a.session.told → script_of scripts w ≡ script → StandsAt meaning scripts R0 R sessions w a → HasPaidStep meaning scripts R0 R sessions w a a (Ok turns.Ended)
  step_past script past e h = ended_same h (elim (h.world.fit w h.session).place [
    | inl l ↦ (let m : (sessions w).told ≤ length script = subst (λ (z : List Statement). (sessions w).told ≤ length z) e l in let k : a.session.told ≤ length script = subst (λ (n : ℕ). n ≤ length script) (told_at h) m in absurd (omega (arith, k, past)))
    | inr c ↦ sessions_end a.store.shape scripts R0 R a.history sessions (row_of a.labels) w h.session h.world c.waits
        (subst (λ (n : ℕ). length (script_of scripts w) ≤ n) (sym (told_at h)) (subst (λ (z : List Statement). length z ≤ a.session.told) (sym e) (omega (arith, past)))) c.none
  ])

  -- ---- an event was made

  not_ended_first : (script : List Statement) → script_of scripts w ≡ script → (length script ≤ a.session.told → a.session.own ≡ None → ⊥) → StandsAt meaning scripts R0 R sessions w a → HasEnded scripts R a.history w → ⊥
  not_ended_first script e more h ended =
      let x = ended_sessions a.store.shape scripts R0 R a.history sessions (row_of a.labels) w h.session h.world ended in
      more (subst (λ (n : ℕ). length script ≤ n) (told_at h) (subst (λ (z : List Statement). length z ≤ (sessions w).told) e x.all_told)) (sym h.own ∙ x.none)

  not_ended_busy : a.session.doing ≢ told.Waiting → StandsAt meaning scripts R0 R sessions w a → HasEnded scripts R a.history w → ⊥
  not_ended_busy busy h ended =
      let x = ended_sessions a.store.shape scripts R0 R a.history sessions (row_of a.labels) w h.session h.world ended in busy_at (place w a.scans) a.session.doing busy (sym (doing_is h) ∙ x.waits)

  -- the midst of the run, after the start
  pub record InMidst (U : List HistoryItem) (u : Told) : Type 0 where
    pub task : Task
    pub midway : IsMidway meaning scripts R0 R sessions w task (begun a U u)
    pub not_ended : HasEnded scripts R a.history w → ⊥
    pub opens : Opens R a.history w U

  -- nothing is under way while it waits
  idle_first : a.session.doing ≡ told.Waiting → StandsAt meaning scripts R0 R sessions w a → under_way a.history w ≡ None
  idle_first waits h = subst (λ (d : Doing). WayFits a.store.shape scripts R a.history w (sessions w) d) (doing_is h ∙ waiting_at (place w a.scans) a.session.doing waits) (h.world.fit w h.session).way

  started_midst : (script : List Statement) (n : ℕ) (U : List HistoryItem) (u : Told) → n ≡ length R → script_of scripts w ≡ script → StandsAt meaning scripts R0 R sessions w a → IsStarted w (length script) n a.session u a.history U → InMidst U u
  started_midst script n U u l e h b = record {
    task = task_of (start_now R w) a.history;
    midway = record {
      stands = h.stands;
      midway = subst (λ (Z : List HistoryItem). Midway a.store.shape scripts R0 R Z sessions (row_of a.labels) w (task_of (start_now R w) a.history) (session_at (place w a.scans) u)) (sym tells)
          (subst (Midway a.store.shape scripts R0 R (item.Started (start_now R w) ∷ a.history) sessions (row_of a.labels) w (task_of (start_now R w) a.history)) (sym is)
          (statements_start a.store.shape scripts R0 R a.history sessions (row_of a.labels) w h.session (doing_is h ∙ waiting_at (place w a.scans) a.session.doing b.waits) more h.world));
      shrinks = h.shrinks;
      own = h.own ∙ sym (ap (λ (z : Told). z.own) b.now);
      shaped = h.shaped;
      held = subst (λ (z : Told). IsHeld (place w a.scans) z.doing) (sym b.now) (subst (IsHeld (place w a.scans)) b.waits h.held);
      located = subst (λ (z : Told). KeepsDoing a.store.shape R z.own z.doing) (sym b.now) tt;
    };
    not_ended = not_ended_first script e b.more h;
    opens = subst (Opens R a.history w) (sym tells) (opens_new (idle_first b.waits h));
  }
    where
      tells : U ≡ item.Started (start_now R w) ∷ a.history
      tells = b.tells ∙ ap (λ (k : ℕ). item.Started (record { session = w; begins = k }) ∷ a.history) l

      more : length (script_of scripts w) ≤ (sessions w).told → own_of R w ≡ None → ⊥
      more k none = b.more (subst (λ (m : ℕ). length script ≤ m) (told_at h) (subst (λ (z : List Statement). length z ≤ (sessions w).told) e k)) (sym h.own ∙ none)

      with : ℕ → ℕ → Session
      with m k = record { told = m; begins = k; doing = Waiting }

      is : session_at (place w a.scans) u ≡ started R (sessions w)
      is = ap (session_at (place w a.scans)) b.now ∙ (ap (λ (k : ℕ). with a.session.told k) l ∙ ap (λ (m : ℕ). with m (length R)) (sym (told_at h)))

  busy_midst : (U : List HistoryItem) (u : Told) → StandsAt meaning scripts R0 R sessions w a → GoesOnWith a.session u a.history U → InMidst U u
  busy_midst U u h b =
      let y = statements_go_on a.store.shape scripts R0 R a.history sessions (row_of a.labels) w h.session (λ e. busy_at (place w a.scans) a.session.doing b.busy (sym (doing_is h) ∙ e)) h.world in
      record {
        task = y.task;
        midway = record {
          stands = h.stands;
          midway = subst (λ (Z : List HistoryItem). Midway a.store.shape scripts R0 R Z sessions (row_of a.labels) w y.task (session_at (place w a.scans) u)) (sym b.tells)
              (subst (Midway a.store.shape scripts R0 R a.history sessions (row_of a.labels) w y.task) (h.is ∙ ap (session_at (place w a.scans)) (sym b.now)) y.midway);
          shrinks = h.shrinks;
          own = h.own ∙ sym (ap (λ (z : Told). z.own) b.now);
          shaped = h.shaped;
          held = subst (λ (z : Told). IsHeld (place w a.scans) z.doing) (sym b.now) h.held;
          located = subst (λ (z : Told). KeepsDoing a.store.shape R z.own z.doing) (sym b.now) h.located;
        };
        not_ended = not_ended_busy b.busy h;
        opens = subst (Opens R a.history w) (sym b.tells) (opens_on y.task y.midway.now);
      }

  pub begun_midst : (script : List Statement) (n : ℕ) (U : List HistoryItem) (u : Told) → n ≡ length R → script_of scripts w ≡ script → StandsAt meaning scripts R0 R sessions w a → (a.session.doing ≢ told.Waiting → GoesOnWith a.session u a.history U)
      → (a.session.doing ≡ told.Waiting → IsStarted w (length script) n a.session u a.history U) → InMidst U u
  begun_midst script n U u l e h on first = elim (is_waiting a.session.doing) [
    | inl y ↦ started_midst script n U u l e h (first y)
    | inr y ↦ busy_midst U u h (on y)
  ]

  -- a start has no moment
  begun_in_time : (k n m : ℕ) (U : List HistoryItem) (u : Told) → (a.session.doing ≢ told.Waiting → GoesOnWith a.session u a.history U) → (a.session.doing ≡ told.Waiting → IsStarted w k n a.session u a.history U) → AreInTime m a.history → AreInTime m U
  begun_in_time k n m U u on first h = elim (is_waiting a.session.doing) [
    | inl y ↦ subst (AreInTime m) (sym (first y).tells) h
    | inr y ↦ subst (AreInTime m) (sym (on y).tells) h
  ]

  -- counted from before the start
  abbrev ran_from : (U : List HistoryItem) (u : Told) (b : Stage D) (r : Result (Unit {0}) StoreFault) → u.told ≡ a.session.told → (AreInTime (meaning.clock a.store.disk) a.history → AreInTime (meaning.clock a.store.disk) U) → HasRun meaning scripts R0 R sessions w (begun a U u) b r
      → HasRun meaning scripts R0 R sessions w a b r
  ran_from U u b r same k h = record {
    records = h.records;
    stands = h.stands;
    stable = h.stable;
    survives = h.survives;
    time = h.time;
    legal = h.legal;
    world = h.world;
    own = h.own;
    shaped = h.shaped;
    held = h.held;
    located = h.located;
    marks = h.marks;
    others = h.others;
    others_located = h.others_located;
    in_time = λ z. h.in_time (k z);
    entry = λ y. h.entry (y ∙ ap (λ (n : ℕ). suc n) (sym same));
    untold = still r h.untold;
    sound = h.sound;
  }
    where
      still : (r : Result (Unit {0}) StoreFault) → OnErr r (b.session.told ≡ u.told) → OnErr r (b.session.told ≡ a.session.told)
      still (Ok z) e = tt
      still (Err f) e = e ∙ same

  pub step_ran : (k n : ℕ) (U : List HistoryItem) (u : Told) (b : Stage D) → u.told ≡ a.session.told → (a.session.doing ≢ told.Waiting → GoesOnWith a.session u a.history U) → (a.session.doing ≡ told.Waiting → IsStarted w k n a.session u a.history U) → InMidst U u
      → Owes a.dues b.dues b.session.own → HasRunOn meaning scripts R0 R sessions w (begun a U u) b (Ok tt) → HasPaidStep meaning scripts R0 R sessions w a b (Ok turns.Made)
  step_ran k n U u b same on first mid owes h = record {
    run = ran_from U u b (Ok tt) same (begun_in_time k n (meaning.clock a.store.disk) U u on first) h.run;
    turn = (mid.not_ended, owes);
    makes = inr (record { session = mid.midway.midway.session; begun = U; opens = mid.opens; goes = h.goes; closes = h.closes });
  }

  pub step_ran_not : (k n : ℕ) (U : List HistoryItem) (u : Told) (b : Stage D) (f : StoreFault) → u.told ≡ a.session.told → (a.session.doing ≢ told.Waiting → GoesOnWith a.session u a.history U) → (a.session.doing ≡ told.Waiting → IsStarted w k n a.session u a.history U) → InMidst U u
      → HasRunOn meaning scripts R0 R sessions w (begun a U u) b (Err f) → HasPaidStep meaning scripts R0 R sessions w a b (Err f)
  step_ran_not k n U u b f same on first mid h = record {
    run = ran_from U u b (Err f) same (begun_in_time k n (meaning.clock a.store.disk) U u on first) h.run;
    turn = tt;
    makes = inr (record { session = mid.midway.midway.session; begun = U; opens = mid.opens; goes = h.goes; closes = h.closes });
  }

-- ---- what is told

pub grows_of : (s u t : Told) (T U V : List HistoryItem) → u.told ≡ s.told → Begins T U → Ends u.told U t.told V → Grows s t T V
grows_of s u t T U V same b e = record { begun = U; begins = b; ends = subst (λ (n : ℕ). Ends n U t.told V) same e }

pub grows_same : (s : Told) (T : List HistoryItem) → Grows s s T T
grows_same s T = record { begun = T; begins = begins_none; ends = ends_none }
