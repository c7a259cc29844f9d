-- A run between its events, and what an event keeps.
use Rattle.std.proofs.Common.{◌≡◌, ℕ, ◌≤◌, Bool, true, false, List, [], ◌∷◌, length, Option, Some, None, refl, sym, ◌∙◌, ap, subst, le_trans, le_refl, inl}
use Rattle.seg_words.specs.Types.{Shape}
use Rattle.redo_record.specs.declared.record.Record.TheVariants as made
use Rattle.redo_model.specs.Records.{Record}
use Rattle.redo_model.specs.Model.{is_active, IsLawful}
use Rattle.session_laws.specs.Sessions.{own_of, backed_of, own_backed}
use Rattle.session_laws.proofs.OwnersLaw.{sessions_own_transactions}
use Rattle.script_text.specs.declared.statement.Statement.{Statement}
use Rattle.script_text.specs.declared.statement.Statement.TheVariants as asked
use Rattle.history_model.specs.declared.history.HistoryItem.{HistoryItem}
use Rattle.history_model.specs.declared.history.HistoryItem.TheVariants as item
use Rattle.history_model.specs.History.{under_way, AreInTime}
use Rattle.history_model.specs.SoFar.{IsUnlowered}
use Rattle.history_model.specs.Legal.{made_none, IsLegal}
use Rattle.history_laws.specs.Working.{Inserting, OnRow, TakingBack, Scanning, Shrinking, Lowering}
use Rattle.history_laws.specs.Events.{MayAdd, Goes, goes_none, goes_one}
use Rattle.history_laws.specs.Telling.{MayStart}
use Rattle.history_laws.specs.Ways.{WorksGoOn, SessionsRun, RunsEnd, with_start, read_before, read_after, Ends, ends_none, ends_one, SettlesBlock, AreSettlings, settling_none, settling_one, EventKeeps, EventsKeep, SettlingsKeep, IsRun, run_none, run_settling, run_event, RunsAreLegal, HistoriesBegin, HistoriesGoOn, HistoriesSettle}
use Rattle.history_laws.proofs.Owned.{none_some, same_some, ways_are_known}
use Rattle.history_laws.proofs.LegalLaw.{records_are_legal}
use Rattle.history_laws.proofs.Telling.{starts_keep, entries_keep}

pub works_go_on : WorksGoOn
works_go_on sh x (Some (asked.Insert name label text)) (Inserting o) f h = record { more = refl; first = f; so_far = h.idle }
works_go_on sh x (Some (asked.Update name target text)) (OnRow k) f h = record { more = refl; first = f; so_far = h.idle }
works_go_on sh x (Some (asked.Delete name target)) (OnRow k) f h = record { more = refl; first = f; so_far = h.idle }
works_go_on sh x (Some asked.Rollback) (TakingBack t) f h = record { more = refl; first = f; so_far = record { txn = t; own_begun = h.own_begun; whole = h.whole; idle = h.idle } }
works_go_on sh x None (TakingBack t) f h = record { more = refl; first = f; so_far = record { txn = t; own_begun = h.own_begun; whole = h.whole; idle = h.idle } }
works_go_on sh x (Some (asked.Scan name)) (Scanning s) f h = record { more = refl; first = f; so_far = h.idle }
works_go_on sh x (Some (asked.Shrink name compact)) (Shrinking k) f h = record { more = refl; first = f; so_far = record { idle = h.idle; unlowered = λ o e. subst (λ z. IsUnlowered x z) (same_some k.obj o (sym h.table ∙ e)) h.unlowered } }
works_go_on sh x (Some (asked.Shrink name false)) (Lowering k) f h = record { more = refl; first = f; so_far = record { idle = h.idle; unlowered = λ o e. subst (λ z. IsUnlowered x z) (same_some k.obj o (sym h.table ∙ e)) h.unlowered } }
works_go_on sh x st k f h = absurd h

pub sessions_run : SessionsRun
sessions_run sh scripts R0 R T moment legal time each known = record {
  legal = legal;
  in_time = time;
  under = λ w task u. (each w (ways_are_known sh scripts (length R0) R T w task legal.told u).session).under task u;
  whole = λ w u. quiet w u (own_of R w) refl;
  known = known;
}
  where
    quiet : (w : ℕ) → under_way T w ≡ None → (own : Option ℕ) → own_of R w ≡ own → own_backed R w ≡ false
    quiet w u None e = ap (backed_of R) e
    quiet w u (Some t) e = (each w (known w t e)).whole u

pub runs_end : RunsEnd
runs_end sh scripts R0 R T moment h over none = record { running = h; over = over; none_active = λ t. quiet t (is_active R t) refl }
  where
    quiet : (t : ℕ) (v : Bool) → is_active R t ≡ v → v ≡ false
    quiet t false e = refl
    quiet t true e =
        let s = (sessions_own_transactions sh R h.legal.lawful.allowed).whose t e in
        none_some t (true ≡ false) (sym (none s.session (h.known s.session t s.own)) ∙ s.own)

-- moments

time_later : (m n : ℕ) (T : List HistoryItem) → m ≤ n → AreInTime m T → AreInTime n T
time_later m n [] l h = tt
time_later m n (item.Started s ∷ T) l h = time_later m n T l h
time_later m n (item.Told e k ∷ T) l h = (le_trans h.0 l, h.1)

start_legal : (sh : Shape) (scripts : List (List Statement)) (R0 Q : List Record) (w : ℕ) (T : List HistoryItem) (starts : Bool) → (starts ≡ true → MayStart scripts Q T w) → IsLegal sh scripts R0 Q T → IsLegal sh scripts R0 Q (with_start starts Q w T)
start_legal sh scripts R0 Q w T true m h = starts_keep sh scripts R0 Q T w (m refl) h
start_legal sh scripts R0 Q w T false m h = h

start_time : (Q : List Record) (w n : ℕ) (T : List HistoryItem) (starts : Bool) → AreInTime n T → AreInTime n (with_start starts Q w T)
start_time Q w n T true h = h
start_time Q w n T false h = h

end_legal : (sh : Shape) (scripts : List (List Statement)) (R0 R : List Record) (w before after now : ℕ) (T U : List HistoryItem) → Ends sh scripts R w before after now T U → IsLegal sh scripts R0 R T → IsLegal sh scripts R0 R U
end_legal sh scripts R0 R w before after now T U ends_none h = h
end_legal sh scripts R0 R w before after now T U (ends_one task outcome k m r) h = entries_keep sh scripts R0 R T w task now outcome k m h

end_time : (sh : Shape) (scripts : List (List Statement)) (R : List Record) (w before after now : ℕ) (T U : List HistoryItem) → Ends sh scripts R w before after now T U → AreInTime now T → AreInTime now U
end_time sh scripts R w before after now T U ends_none h = h
end_time sh scripts R w before after now T U (ends_one task outcome k m r) h = (le_refl now, h)

pub events_keep : EventsKeep
events_keep sh scripts w read before now R0 Q R T U a l e h t = record {
  legal = end_legal sh scripts R0 R w (read_before e.starts read) (read_after e.starts read) now (with_start e.starts Q w T) U e.ends (records_are_legal sh scripts R0 Q R (with_start e.starts Q w T) w a e.goes (start_legal sh scripts R0 Q w T e.starts e.may h));
  in_time = end_time sh scripts R w (read_before e.starts read) (read_after e.starts read) now (with_start e.starts Q w T) U e.ends (start_time Q w now T e.starts (time_later before now T l t));
}

-- a settling is of nobody, so of any session

settled_adds : (sh : Shape) (scripts : List (List Statement)) (T : List HistoryItem) (R : List Record) (r : Record) → SettlesBlock R r → MayAdd sh scripts T 0 R r
settled_adds sh scripts T R (made.Class k) h = inl h
settled_adds sh scripts T R (made.Clean c) h = h
settled_adds sh scripts T R r h = absurd h

settled_goes : (sh : Shape) (scripts : List (List Statement)) (T : List HistoryItem) (Q R : List Record) → AreSettlings Q R → Goes sh scripts T 0 Q R
settled_goes sh scripts T Q R settling_none = goes_none
settled_goes sh scripts T Q S (settling_one {R = R} r h s) = goes_one r (settled_goes sh scripts T Q R h) (settled_adds sh scripts T R r s)

pub settlings_keep : SettlingsKeep
settlings_keep sh scripts before now R0 Q R T a l s h t = record { legal = records_are_legal sh scripts R0 Q R T 0 a (settled_goes sh scripts T Q R s) h; in_time = time_later before now T l t }

-- a run

run_legal : (sh : Shape) (scripts : List (List Statement)) (R0 : List Record) (first : ℕ) (R : List Record) (T : List HistoryItem) (now : ℕ) (reads : ℕ → ℕ) → IsLawful sh R0 → IsRun sh scripts R0 first R T now reads → EventKeeps sh scripts R0 R T now
run_legal sh scripts R0 first R T now reads a run_none = record { legal = record { lawful = a; made = made_none; told = tt }; in_time = tt }
run_legal sh scripts R0 first S V m g a (run_settling before now Q R T reads r l b s) =
    let k = run_legal sh scripts R0 first Q T before reads a r in
    settlings_keep sh scripts before now R0 Q R T b l s k.legal k.in_time
run_legal sh scripts R0 first S V m g a (run_event w before now Q R T U reads next r l b e n) =
    let k = run_legal sh scripts R0 first Q T before reads a r in
    events_keep sh scripts w (reads w) before now R0 Q R T U b l e k.legal k.in_time

pub runs_are_legal : RunsAreLegal
runs_are_legal sh scripts R0 R T first now reads a r = run_legal sh scripts R0 first R T now reads a r

-- a world's history

pub histories_begin : HistoriesBegin
histories_begin sh scripts R0 first a none = record {
  run = run_none;
  running = record {
    legal = record { lawful = a; made = made_none; told = tt };
    in_time = tt;
    under = λ w task u. none_some task _ u;
    whole = λ w u. ap (backed_of R0) (none w);
    known = λ w t o. none_some t _ (sym (none w) ∙ o);
  };
}

pub histories_go_on : HistoriesGoOn
histories_go_on sh scripts w first before now R0 Q R T U reads next a l e n h on =
    let k = events_keep sh scripts w (reads w) before now R0 Q R T U a l e h.running.legal h.running.in_time in
    record { run = run_event w before now Q R T U reads next h.run l a e n; running = sessions_run sh scripts R0 R U now k.legal k.in_time on.each on.known }

pub histories_settle : HistoriesSettle
histories_settle sh scripts first before now R0 Q R T reads a l s h on =
    let k = settlings_keep sh scripts before now R0 Q R T a l s h.running.legal h.running.in_time in
    record { run = run_settling before now Q R T reads h.run l a s; running = sessions_run sh scripts R0 R T now k.legal k.in_time on.each on.known }
