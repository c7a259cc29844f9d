-- An event of a session, from its start to its entry.
use Rattle.std.proofs.Common.{◌≡◌, ◌≢◌, ◌⊎◌, ℕ, zero, suc, ◌≤◌, Bool, eqb, eqb-true, List, [], ◌∷◌, length, Option, Some, None, refl, sym, ◌∙◌, ap, subst, arith, le_trans, le_refl, inl, inr}
use Rattle.std.specs.Prelude.{slice_get}
use Rattle.seg_words.proofs.Lemmas.{cases_Bool, cases_order, eqb-false}
use Rattle.seg_words.specs.Types.{Shape}
use Rattle.redo_model.specs.Records.{Record}
use Rattle.redo_model.specs.Model.{Extends, table_named, AreAllowed}
use Rattle.redo_laws.proofs.lists.Prefixes.{prefix_longer, extends_length}
use Rattle.session_laws.specs.Sessions.{own_of, backed_of}
use Rattle.script_text.specs.declared.statement.Statement.{Statement}
use Rattle.script_text.specs.declared.statement.Statement.TheVariants as asked
use Rattle.history_model.specs.declared.history.HistoryItem.{HistoryItem}
use Rattle.history_model.specs.declared.history.HistoryItem.TheVariants as item
use Rattle.history_model.specs.History.{IsSession, Task, script_of, statement_of, entry_count, under_way, bound, bound_by}
use Rattle.history_model.specs.Spans.{Span}
use Rattle.history_model.specs.Means.{Means, PassesOver}
use Rattle.history_model.specs.Legal.{made_none}
use Rattle.history_laws.specs.Working.{now_of, Work, Scanning, Inserting, OnRow, TakingBack, Shrinking, Lowering, WorkStands}
use Rattle.history_laws.specs.Events.{Goes}
use Rattle.history_laws.specs.Telling.{start_now, entry_now}
use Rattle.history_laws.proofs.Frames.{events_leave_transactions}
use Rattle.history_laws.proofs.LegalLaw.{records_are_legal}
use Rattle.history_laws.proofs.Owned.{none_some, ways_are_known}
use Rattle.history_laws.proofs.Telling.{starts_keep, entries_keep, spans_begin, own_is_told, others_are_told}
use Rattle.session_model.specs.Doings.{Doing, Waiting, Working, Repairing, DoingFits, takes_back, WorkShrinks, ShrinksOn, doing_since}
use Rattle.session_model.specs.Sessions.{Session, HasPassed, IsUnder, WayFits, IsClosed, Fits, session_since}
use Rattle.session_model.specs.Worlds.{ShrinksAlone, IsReady, Midway, Acts, GoesOn, IsNext}
use Rattle.session_model.specs.Laws.{WorldsBegin, StatementsStart, StatementsGoOn, EventsGoOn, EventsEnd, EventsFail, ShrinksAreBusy, NoneIsBusy, SessionsEnd, EndedSessions}
use Rattle.session_model.proofs.Keeping.{goes_extends, others_stay, others_told, way_busy, way_waits, way_none}
use Rattle.session_model.proofs.Alone.{shrink_told, asks_alone, shrink_bars, bar_shrinks, alone_by}
use Rattle.session_model.proofs.Going.{GoesWell, acts_go}

-- ---- the beginning

pub worlds_begin : WorldsBegin
worlds_begin sh scripts R0 lawful none = record {
  legal = record { lawful = lawful; made = made_none; told = tt };
  fit = λ w session. record { told = refl; way = refl; whole = λ e. ap (backed_of R0) (none w); place = inl (omega arith) };
  alone = λ v w o sv sw a b. absurd a;
  known = λ w t e. none_some t _ (sym (none w) ∙ e);
  labelled = λ l. refl;
}

-- ---- statements by their places

get_below : (xs : List Statement) (n : ℕ) (y : Statement) → slice_get xs n ≡ Some y → suc n ≤ length xs
get_below [] n y h = none_some y _ h
get_below (x ∷ xs) zero y h = omega arith
get_below (x ∷ xs) (suc n) y h = let l = get_below xs n y h in omega (arith, l)

get_past : (xs : List Statement) (n : ℕ) → slice_get xs n ≡ None → length xs ≤ n
get_past [] n h = omega arith
get_past (x ∷ xs) zero h = none_some x _ (sym h)
get_past (x ∷ xs) (suc n) h = let l = get_past xs n h in omega (arith, l)

-- ---- an event's first part

not_past : (n m : ℕ) → (m ≤ n → ⊥) → n ≤ m
not_past n m f = elim (cases_order n m) [
  | inl e ↦ absurd (f (omega (arith, e)))
  | inr y ↦ elim y [ inl l ↦ omega (arith, l) | inr l ↦ absurd (f (omega (arith, l))) ]
]

pub statements_start : StatementsStart
statements_start sh scripts R0 R T sessions labels w session waits more h = record {
  legal = starts_keep sh scripts R0 R T w (record { session = session; idle = idle; place = subst (λ n. n ≤ length (script_of scripts w)) f.told few; closing = λ e o. more (subst (λ n. length (script_of scripts w) ≤ n) (sym f.told) (get_past (script_of scripts w) (entry_count T w) e)) o }) h.legal;
  session = session;
  now = (own_is_told T w).started (start_now R w) refl;
  told = f.told;
  place = sym f.told;
  begins = refl;
  within = le_refl (length R);
  few = few;
  whole = λ e. f.whole (ap takes_back waits);
  ready = spans_begin scripts R T w;
  first = λ e. record { others = λ v ne. sym ((others_are_told T (item.Started (start_now R w)) v (λ y. ne (sym y))).way); labelled = h.labelled };
  closing = λ e o. more (get_past (script_of scripts w) (sessions w).told e) o;
  others = λ v other ne. others_told sh scripts R T (item.Started (start_now R w)) v (sessions v) (λ y. ne (sym y)) (h.fit v other);
  alone = λ v o other ne on off. off;
  apart = λ u v o su sv nu nv a b. h.alone u v o su sv a b;
  known = h.known;
  labelled = h.labelled;
}
  where
    f : Fits sh scripts R T w (sessions w)
    f = h.fit w session

    idle : under_way T w ≡ None
    idle = way_waits sh scripts R T w (sessions w) (sessions w).doing waits f.way

    few : (sessions w).told ≤ length (script_of scripts w)
    few = elim f.place [
      | inl l ↦ l
      | inr c ↦ not_past (sessions w).told (length (script_of scripts w)) (λ l. more l c.none)
    ]

ready_of : (sh : Shape) (x : Span) (st : Option Statement) (d : Doing) → d ≢ Waiting → HasPassed sh x st → DoingFits sh x st d → IsReady sh x st d
ready_of sh x st Waiting ne p f = absurd (ne refl)
ready_of sh x st (Working k) ne p f = (p, f)
ready_of sh x st (Repairing k) ne p f = (p, f)

-- at its end a session takes its transaction back, and has it
work_open : (sh : Shape) (x : Span) (k : Work) → WorkStands sh x None k → own_of x.ended x.session ≡ None → ⊥
work_open sh x (TakingBack t) h e = none_some t _ (sym e ∙ h.own_now)
work_open sh x k h e = h

end_open : (sh : Shape) (x : Span) (st : Option Statement) (d : Doing) → st ≡ None → DoingFits sh x st d → own_of x.ended x.session ≡ None → ⊥
end_open sh x st d e f o = opened d (subst (λ (z : Option Statement). DoingFits sh x z d) e f)
  where
    opened : (d : Doing) → DoingFits sh x None d → ⊥
    opened Waiting h = h
    opened (Working k) h = work_open sh x k h o
    opened (Repairing k) h = h

pub statements_go_on : StatementsGoOn
statements_go_on sh scripts R0 R T sessions labels w session busy h = record {
  task = u.task;
  midway = record {
    legal = h.legal;
    session = session;
    now = u.now;
    told = f.told;
    place = u.place;
    begins = u.begins;
    within = u.within;
    few = elim f.place [ inl l ↦ l | inr c ↦ absurd (busy c.waits) ];
    whole = f.whole;
    ready = ready_of sh (now_of scripts R w u.task) (statement_of scripts w (sessions w).told) (sessions w).doing busy u.passed u.fits;
    first = λ e. absurd (busy e);
    closing = λ e o. end_open sh (now_of scripts R w u.task) (statement_of scripts w (sessions w).told) (sessions w).doing e u.fits o;
    others = λ v other ne. h.fit v other;
    alone = λ v o other ne a b. ne (h.alone v w o other session a b);
    apart = λ u v o su sv nu nv a b. h.alone u v o su sv a b;
    known = h.known;
    labelled = h.labelled;
  };
}
  where
    f : Fits sh scripts R T w (sessions w)
    f = h.fit w session

    u : IsUnder sh scripts R T w (sessions w)
    u = way_busy sh scripts R T w (sessions w) (sessions w).doing busy f.way

-- ---- its end

work_shrinks_same : (sh : Shape) (n : ℕ) (R : List Record) (k : Work) (o : ℕ) → ShrinksOn (doing_since sh n R (Working k)) o → WorkShrinks k o
work_shrinks_same sh n R (Shrinking k) o h = h
work_shrinks_same sh n R (Lowering k) o h = h
work_shrinks_same sh n R (Scanning k) o h = h
work_shrinks_same sh n R (Inserting k) o h = h
work_shrinks_same sh n R (OnRow k) o h = h
work_shrinks_same sh n R (TakingBack k) o h = h

shrinks_same : (sh : Shape) (n : ℕ) (R : List Record) (d : Doing) (o : ℕ) → ShrinksOn (doing_since sh n R d) o → ShrinksOn d o
shrinks_same sh n R Waiting o h = h
shrinks_same sh n R (Working k) o h = work_shrinks_same sh n R k o h
shrinks_same sh n R (Repairing k) o h = h

-- what holds of session w and of each other one holds of each
each_session : (P : ℕ → Type 0) (w : ℕ) → P w → ((v : ℕ) → v ≢ w → P v) → (v : ℕ) → P v
each_session P w own others v = elim (cases_Bool (eqb v w)) [
  | inl y ↦ subst P (sym (eqb-true v w y)) own
  | inr y ↦ others v (eqb-false v w y)
]

-- no two sessions shrink one table afterwards
alone_next : (sh : Shape) (scripts : List (List Statement)) (w n : ℕ) (R : List Record) (sessions next : ℕ → Session) (s : Session) → IsNext sh scripts w n R sessions next s
    → ((v o : ℕ) → IsSession scripts v → v ≢ w → ShrinksOn (sessions v).doing o → ShrinksOn s.doing o → ⊥)
    → ((u v o : ℕ) → IsSession scripts u → IsSession scripts v → u ≢ w → v ≢ w → ShrinksOn (sessions u).doing o → ShrinksOn (sessions v).doing o → u ≡ v) → ShrinksAlone scripts next
alone_next sh scripts w n R sessions next s is own apart v u o sv su hv hu =
    elim (cases_Bool (eqb v w)) [
      | inl y ↦ elim (cases_Bool (eqb u w)) [
        | inl z ↦ eqb-true v w y ∙ sym (eqb-true u w z)
        | inr z ↦ absurd (own u o su (eqb-false u w z) (other u su (eqb-false u w z) hu) (mine v (eqb-true v w y) hv))
      ]
      | inr y ↦ elim (cases_Bool (eqb u w)) [
        | inl z ↦ absurd (own v o sv (eqb-false v w y) (other v sv (eqb-false v w y) hv) (mine u (eqb-true u w z) hu))
        | inr z ↦ apart v u o sv su (eqb-false v w y) (eqb-false u w z) (other v sv (eqb-false v w y) hv) (other u su (eqb-false u w z) hu)
      ]
    ]
  where
    mine : (a : ℕ) → a ≡ w → ShrinksOn (next a).doing o → ShrinksOn s.doing o
    mine a e h = subst (λ (z : Session). ShrinksOn z.doing o) is.own (subst (λ (b : ℕ). ShrinksOn (next b).doing o) e h)

    other : (a : ℕ) → IsSession scripts a → a ≢ w → ShrinksOn (next a).doing o → ShrinksOn (sessions a).doing o
    other a session ne h = shrinks_same sh n R (sessions a).doing o (subst (λ (z : Session). ShrinksOn z.doing o) (is.others a session ne) h)

-- the first tests as the event began
passed_then : (sh : Shape) (scripts : List (List Statement)) (Q R : List Record) (w : ℕ) (task : Task) (st : Option Statement) → (R ≡ Q) ⊎ HasPassed sh (now_of scripts Q w task) st → HasPassed sh (now_of scripts R w task) st → HasPassed sh (now_of scripts Q w task) st
passed_then sh scripts Q R w task st (inl e) p = subst (λ (z : List Record). HasPassed sh (now_of scripts z w task) st) e p
passed_then sh scripts Q R w task st (inr q) p = q

shrink_asks : (st : Option Statement) (name : List ℕ) (compact : Bool) → st ≡ Some (asked.Shrink name compact) → asks_alone st ≡ Some name
shrink_asks st name compact e = ap asks_alone e

-- a shrink that goes on has its table for itself
own_alone : (sh : Shape) (scripts : List (List Statement)) (R0 Q R : List Record) (T : List HistoryItem) (sessions : ℕ → Session) (labels : List ℕ → Option ℕ) (w : ℕ) (task : Task) (s : Session) (d : Doing) (v o : ℕ) → Extends Q R → Midway sh scripts R0 Q T sessions labels w task s
    → Acts sh (now_of scripts Q w task) (statement_of scripts w s.told) R → GoesOn sh (now_of scripts R w task) (statement_of scripts w s.told) d → IsSession scripts v → v ≢ w → ShrinksOn (sessions v).doing o → ShrinksOn d o → ⊥
own_alone sh scripts R0 Q R T sessions labels w task s d v o e m x g session ne theirs mine =
    let y = shrink_told sh (now_of scripts R w task) (statement_of scripts w s.told) o d g.fits mine in
    alone_by sh scripts R0 Q T sessions labels w task s s.doing (statement_of scripts w s.told) y.name o v refl m m.ready (passed_then sh scripts Q R w task (statement_of scripts w s.told) x.passed g.passed)
    (shrink_asks (statement_of scripts w s.told) y.name y.compact y.statement) (ap (λ (z : List Record). table_named z y.name) (sym (prefix_longer Q R task.begins e m.within)) ∙ y.table) session ne theirs

under_on : (sh : Shape) (scripts : List (List Statement)) (R : List Record) (T : List HistoryItem) (w : ℕ) (s : Session) (d : Doing) → d ≢ Waiting → IsUnder sh scripts R T w s → WayFits sh scripts R T w s d
under_on sh scripts R T w s Waiting n u = absurd (n refl)
under_on sh scripts R T w s (Working k) n u = u
under_on sh scripts R T w s (Repairing k) n u = u

not_waiting : (sh : Shape) (x : Span) (st : Option Statement) (d : Doing) → DoingFits sh x st d → d ≢ Waiting
not_waiting sh x st d f e = subst (DoingFits sh x st) e f

-- each active transaction is of a session of the scripts
known_later : (sh : Shape) (scripts : List (List Statement)) (R0 Q R : List Record) (T : List HistoryItem) (sessions : ℕ → Session) (labels : List ℕ → Option ℕ) (w : ℕ) (task : Task) (s : Session) → AreAllowed sh R → Midway sh scripts R0 Q T sessions labels w task s → Goes sh scripts T w Q R
    → (v t : ℕ) → own_of R v ≡ Some t → IsSession scripts v
known_later sh scripts R0 Q R T sessions labels w task s a m g v t e =
    elim (cases_Bool (eqb v w)) [
      | inl y ↦ subst (IsSession scripts) (sym (eqb-true v w y)) m.session
      | inr y ↦ m.known v t (sym (events_leave_transactions sh scripts T w Q R v a (λ z. eqb-false v w y (sym z)) g) ∙ e)
    ]

pub events_go_on : EventsGoOn
events_go_on sh scripts R0 Q R T sessions next labels w task s d lawful m x g is = record {
  legal = records_are_legal sh scripts R0 Q R T w lawful well.goes m.legal;
  fit = λ v session. each_session (λ u. IsSession scripts u → Fits sh scripts R T u (next u)) w (λ z. subst (Fits sh scripts R T w) (sym is.own) own) (λ u ne z. subst (Fits sh scripts R T u) (sym (is.others u z ne)) (other u z ne)) v session;
  alone = alone_next sh scripts w (length Q) R sessions next (record { told = s.told; begins = s.begins; doing = d }) is (λ v o session ne a b. own_alone sh scripts R0 Q R T sessions labels w task s d v o later m x g session ne a b) m.apart;
  known = known_later sh scripts R0 Q R T sessions labels w task s lawful.allowed m well.goes;
  labelled = m.labelled;
}
  where
    well : GoesWell sh scripts Q T sessions w R
    well = acts_go sh scripts R0 Q T sessions labels w task s R m lawful.allowed x

    later : Extends Q R
    later = goes_extends sh scripts T w Q R well.goes

    under : IsUnder sh scripts R T w (record { told = s.told; begins = s.begins; doing = d })
    under = record { task = task; now = m.now; place = m.place; begins = m.begins; within = le_trans m.within (extends_length Q R later); passed = g.passed; fits = g.fits }

    own : Fits sh scripts R T w (record { told = s.told; begins = s.begins; doing = d })
    own = record { told = m.told; way = under_on sh scripts R T w (record { told = s.told; begins = s.begins; doing = d }) d (not_waiting sh (now_of scripts R w task) (statement_of scripts w s.told) d g.fits) under; whole = g.whole; place = inl m.few }

    other : (v : ℕ) → IsSession scripts v → v ≢ w → Fits sh scripts R T v (session_since sh (length Q) R (sessions v))
    other v session ne = others_stay sh scripts T w Q R v (sessions v) lawful.allowed (λ e. ne (sym e)) well.goes (well.spared v session ne) (m.others v session ne)

pub events_end : EventsEnd
events_end sh scripts R0 Q R T sessions next labels bound_next w task s moment outcome k lawful m x o is binds = record {
  legal = entries_keep sh scripts R0 R T w task moment outcome k (record {
    now = m.now;
    means = subst (λ (n : ℕ). Means sh (now_of scripts R w task) (statement_of scripts w n) outcome k) (sym m.place) o.means;
    passes = subst (λ (n : ℕ). PassesOver sh (now_of scripts R w task) (statement_of scripts w n) outcome k) (sym m.place) o.passes;
  }) (records_are_legal sh scripts R0 Q R T w lawful well.goes m.legal);
  fit = λ v session. each_session (λ u. IsSession scripts u → Fits sh scripts R (item.Told (entry_now scripts R w task moment outcome) k ∷ T) u (next u)) w (λ z. subst (Fits sh scripts R (item.Told (entry_now scripts R w task moment outcome) k ∷ T) w) (sym is.own) own)
      (λ u ne z. subst (Fits sh scripts R (item.Told (entry_now scripts R w task moment outcome) k ∷ T) u) (sym (is.others u z ne)) (other u z ne)) v session;
  alone = alone_next sh scripts w (length Q) R sessions next (record { told = suc s.told; begins = s.begins; doing = Waiting }) is (λ v p session ne a b. b) m.apart;
  known = known_later sh scripts R0 Q R T sessions labels w task s lawful.allowed m well.goes;
  labelled = λ l. binds l ∙ (ap (bound_by (statement_of scripts w s.told) outcome l) (m.labelled l) ∙ ap (λ (n : ℕ). bound_by (statement_of scripts w n) outcome l (bound scripts T l)) m.told);
}
  where
    well : GoesWell sh scripts Q T sessions w R
    well = acts_go sh scripts R0 Q T sessions labels w task s R m lawful.allowed x

    closes : (st : Option Statement) → statement_of scripts w s.told ≡ st → (suc s.told ≤ length (script_of scripts w)) ⊎ IsClosed R w (record { told = suc s.told; begins = s.begins; doing = Waiting })
    closes None e = inr (record { waits = refl; none = o.closed e })
    closes (Some y) e = inl (get_below (script_of scripts w) s.told y e)

    own : Fits sh scripts R (item.Told (entry_now scripts R w task moment outcome) k ∷ T) w (record { told = suc s.told; begins = s.begins; doing = Waiting })
    own = record {
      told = ap suc m.told ∙ sym ((own_is_told T w).counted (entry_now scripts R w task moment outcome) k refl);
      way = (own_is_told T w).ended (entry_now scripts R w task moment outcome) k refl;
      whole = λ e. o.whole;
      place = closes (statement_of scripts w s.told) refl;
    }

    other : (v : ℕ) → IsSession scripts v → v ≢ w → Fits sh scripts R (item.Told (entry_now scripts R w task moment outcome) k ∷ T) v (session_since sh (length Q) R (sessions v))
    other v session ne =
        others_told sh scripts R T (item.Told (entry_now scripts R w task moment outcome) k) v (session_since sh (length Q) R (sessions v)) (λ e. ne (sym e))
        (others_stay sh scripts T w Q R v (sessions v) lawful.allowed (λ e. ne (sym e)) well.goes (well.spared v session ne) (m.others v session ne))

pub events_fail : EventsFail
events_fail sh scripts R0 Q R T sessions labels w task s lawful m x =
    records_are_legal sh scripts R0 Q R T w lawful (acts_go sh scripts R0 Q T sessions labels w task s R m lawful.allowed x).goes m.legal

-- ---- what a session asks of the others

begun_now : (sh : Shape) (x : Span) (st : Option Statement) (d : Doing) → d ≡ Waiting → IsReady sh x st d → x.begun ≡ x.ended
begun_now sh x st d e r = subst (IsReady sh x st) e r

pub shrinks_are_busy : ShrinksAreBusy
shrinks_are_busy sh scripts R0 R T sessions labels w task s name o v waits m table session ne on =
    let begun = begun_now sh (now_of scripts R w task) (statement_of scripts w s.told) s.doing waits m.ready in
    shrink_bars sh scripts R T (now_of scripts R w task) name v (sessions v) o refl begun ne ((m.first waits).others v ne) (ap (λ (z : List Record). table_named z name) begun ∙ table) (m.others v session ne) on

pub none_is_busy : NoneIsBusy
none_is_busy sh scripts R0 R T sessions labels w task s name o waits m table none v h =
    let begun = begun_now sh (now_of scripts R w task) (statement_of scripts w s.told) s.doing waits m.ready in
    let same = (m.first waits).others v h.other in
    let known = ways_are_known sh scripts (length R0) R T v h.task m.legal.told (sym same ∙ h.under) in
    none v known.session h.other (bar_shrinks sh scripts (length R0) R T (now_of scripts R w task) name v (sessions v) o refl begun same (ap (λ (z : List Record). table_named z name) begun ∙ table) (m.others v known.session h.other) h)

-- ---- the end

pub sessions_end : SessionsEnd
sessions_end sh scripts R0 R T sessions labels w session h waits all none =
    let f = h.fit w session in
    record { all_told = subst (λ n. length (script_of scripts w) ≤ n) f.told all; idle = way_waits sh scripts R T w (sessions w) (sessions w).doing waits f.way; closed = none }

pub ended_sessions : EndedSessions
ended_sessions sh scripts R0 R T sessions labels w session h e =
    let f = h.fit w session in
    record { waits = way_none sh scripts R T w (sessions w) (sessions w).doing f.way e.idle; all_told = subst (λ n. length (script_of scripts w) ≤ n) (sym f.told) e.all_told; none = e.closed }
