-- What an event keeps: its start, its records, its entry.
use Rattle.std.proofs.Common.{◌≡◌, ℕ, ◌≤◌, ◌<◌, true, false, List, ◌∷◌, length, Option, Some, None, sym, ◌∙◌, subst, arith, le_trans, le_refl, inl, inr, eqb, eqb-true, true≢false}
use Rattle.seg_words.proofs.Lemmas.{cases_Bool, eqb-false}
use Rattle.seg_words.specs.Types.{Shape}
use Rattle.redo_record.specs.declared.record.Record.TheVariants as made
use Rattle.redo_model.specs.Records.{Record}
use Rattle.redo_model.specs.Model.{Extends, AreAllowed}
use Rattle.redo_model.specs.Lists.{same, more}
use Rattle.redo_laws.proofs.lists.Prefixes.{extends_length}
use Rattle.session_laws.specs.Sessions.{IsOf}
use Rattle.session_laws.proofs.OwnersLaw.{sessions_own_transactions}
use Rattle.script_text.specs.declared.statement.Statement.{Statement}
use Rattle.script_text.specs.declared.statement.Statement.TheVariants as asked
use Rattle.history_model.specs.declared.history.HistoryItem.{HistoryItem}
use Rattle.history_model.specs.declared.history.HistoryItem.TheVariants as item
use Rattle.history_model.specs.History.{statement_of, reached, owner}
use Rattle.history_model.specs.Makes.{Makes}
use Rattle.history_model.specs.Legal.{BelongsTo, Belongs, IsCalledBy, IsMade, AreMade, made_none, made_one, AreTold, IsLegal}
use Rattle.history_laws.specs.Events.{Does, DoesAlone, MayAdd, Goes, goes_none, goes_one}
use Rattle.history_laws.specs.Keeping.{StartsAreLegal, RecordsAreLegal, EntriesAreLegal, is_of_one, RecordsBelong, MovesBelong}
use Rattle.history_laws.proofs.Told.{told_more}
use Rattle.history_laws.proofs.Owned.{owner_way, start_same, entry_same, owner_under, reached_within, ways_are_known}

-- belonging, where the owners are the same

abbrev pub SameOwners : List HistoryItem → List HistoryItem → ℕ → Type 0
SameOwners T U n = (w : ℕ) → owner U w n ≡ owner T w n

belongs_to_map : (sh : Shape) (scripts : List (List Statement)) (T U : List HistoryItem) (Q : List Record) (r : Record) (w : ℕ) → owner U w (length Q) ≡ owner T w (length Q) → BelongsTo sh scripts T Q r w → BelongsTo sh scripts U Q r w
belongs_to_map sh scripts T U Q r w e b = record { session = b.session; task = b.task; owned = e ∙ b.owned; makes = b.makes }

belongs_map : (sh : Shape) (scripts : List (List Statement)) (T U : List HistoryItem) (Q : List Record) (r : Record) → SameOwners T U (length Q) → Belongs sh scripts T Q r → Belongs sh scripts U Q r
belongs_map sh scripts T U Q r e b = record { session = b.session; to = belongs_to_map sh scripts T U Q r b.session (e b.session) b.to; alone = λ v x. b.alone v (belongs_to_map sh scripts U T Q r v (sym (e v)) x) }

called_map : (sh : Shape) (scripts : List (List Statement)) (T U : List HistoryItem) (Q : List Record) (r : Record) → SameOwners T U (length Q) → IsCalledBy sh scripts T Q r → IsCalledBy sh scripts U Q r
called_map sh scripts T U Q r e b = record { session = b.session; to = belongs_to_map sh scripts T U Q r b.session (e b.session) b.to }

made_map : (sh : Shape) (scripts : List (List Statement)) (T U : List HistoryItem) (Q : List Record) (r : Record) → SameOwners T U (length Q) → IsMade sh scripts T Q r → IsMade sh scripts U Q r
made_map sh scripts T U Q (made.Class k) e (inl h) = inl h
made_map sh scripts T U Q (made.Class k) e (inr h) = inr (belongs_map sh scripts T U Q (made.Class k) e h)
made_map sh scripts T U Q (made.Clean c) e h = h
made_map sh scripts T U Q (made.Reuse q) e h = tt
made_map sh scripts T U Q (made.Extend x) e (inl h) = inl h
made_map sh scripts T U Q (made.Extend x) e (inr h) = inr (called_map sh scripts T U Q (made.Extend x) e h)
made_map sh scripts T U Q (made.FormatBlock f) e h = called_map sh scripts T U Q (made.FormatBlock f) e h
made_map sh scripts T U Q (made.Advance a) e h = called_map sh scripts T U Q (made.Advance a) e h
made_map sh scripts T U Q r e h = belongs_map sh scripts T U Q r e h

all_made : (sh : Shape) (scripts : List (List Statement)) (T U : List HistoryItem) (R0 R : List Record) → ((n : ℕ) → n < length R → SameOwners T U n) → AreMade sh scripts T R0 R → AreMade sh scripts U R0 R
all_made sh scripts T U R0 R e made_none = made_none
all_made sh scripts T U R0 S e (made_one {R = R} r h m) = made_one r (all_made sh scripts T U R0 R (λ n l. e n (omega (arith, l))) h) (made_map sh scripts T U R r (e (length R) (omega arith)) m)

pub made_longer : (sh : Shape) (scripts : List (List Statement)) (T : List HistoryItem) (R0 R : List Record) → AreMade sh scripts T R0 R → length R0 ≤ length R
made_longer sh scripts T R0 R made_none = le_refl (length R0)
made_longer sh scripts T R0 S (made_one {R = R} r h m) = let l = made_longer sh scripts T R0 R h in omega (arith, l)

-- a start, an entry

pub starts_are_legal : StartsAreLegal
starts_are_legal sh scripts R0 R T s b stands h = record {
  lawful = h.lawful;
  made = all_made sh scripts T (item.Started s ∷ T) R0 R (λ n l w. start_same T s w n (subst (λ m. n < m) (sym b) l)) h.made;
  told = (stands, h.told);
}

pub entries_are_legal : EntriesAreLegal
entries_are_legal sh scripts R0 R T e k b stands h = record {
  lawful = h.lawful;
  made = all_made sh scripts T (item.Told e k ∷ T) R0 R (λ n l w. entry_same T e k stands.task w n stands.started stands.begins (subst (λ m. n < m) (sym b) l)) h.made;
  told = (stands, h.told);
}

-- whose a record is that a statement makes

pub makes_of : (sh : Shape) (scripts : List (List Statement)) (past : List HistoryItem) (w : ℕ) (st : Option Statement) (Q : List Record) (r : Record) → Makes sh scripts past w st Q r → IsOf Q w r
makes_of sh scripts past w (Some (asked.Table name pctfree)) Q (made.Table t) h = tt
makes_of sh scripts past w (Some (asked.Movement name on)) Q (made.Movement m) h = tt
makes_of sh scripts past w (Some (asked.Insert name label text)) Q (made.Begin g) h = h
makes_of sh scripts past w (Some (asked.Insert name label text)) Q (made.Insert body) h = h.0.own
makes_of sh scripts past w (Some (asked.Insert name label text)) Q (made.FormatBlock f) h = tt
makes_of sh scripts past w (Some (asked.Insert name label text)) Q (made.Advance a) h = tt
makes_of sh scripts past w (Some (asked.Insert name label text)) Q (made.Extend e) h = tt
makes_of sh scripts past w (Some (asked.Update name target text)) Q (made.Begin g) h = h
makes_of sh scripts past w (Some (asked.Update name target text)) Q (made.Update body) h = h.0.row.own
makes_of sh scripts past w (Some (asked.Update name target text)) Q (made.Migrate body) h = h.0.row.own
makes_of sh scripts past w (Some (asked.Update name target text)) Q (made.Return body) h = h.0.row.own
makes_of sh scripts past w (Some (asked.Update name target text)) Q (made.FormatBlock f) h = tt
makes_of sh scripts past w (Some (asked.Update name target text)) Q (made.Advance a) h = tt
makes_of sh scripts past w (Some (asked.Update name target text)) Q (made.Extend e) h = tt
makes_of sh scripts past w (Some (asked.Delete name target)) Q (made.Begin g) h = h
makes_of sh scripts past w (Some (asked.Delete name target)) Q (made.Delete body) h = h.row.own
makes_of sh scripts past w (Some asked.Commit) Q (made.Commit c) h = h
makes_of sh scripts past w (Some asked.Rollback) Q (made.Back k) h = h
makes_of sh scripts past w (Some asked.Rollback) Q (made.Ended e) h = h
makes_of sh scripts past w None Q (made.Back k) h = h
makes_of sh scripts past w None Q (made.Ended e) h = h
makes_of sh scripts past w (Some (asked.Shrink name compact)) Q (made.Move m) h = tt
makes_of sh scripts past w (Some (asked.Shrink name false)) Q (made.Lower l) h = tt
makes_of sh scripts past w (Some (asked.Fix name block value)) Q (made.Class k) h = tt
makes_of sh scripts past w st Q r h = absurd h

pub adds_of : (sh : Shape) (scripts : List (List Statement)) (T : List HistoryItem) (w : ℕ) (R : List Record) (r : Record) → MayAdd sh scripts T w R r → IsOf R w r
adds_of sh scripts T w R (made.Begin g) h = makes_of sh scripts h.task.past w (statement_of scripts w h.task.place) R (made.Begin g) h.makes
adds_of sh scripts T w R (made.Insert x) h = makes_of sh scripts h.task.past w (statement_of scripts w h.task.place) R (made.Insert x) h.makes
adds_of sh scripts T w R (made.Update x) h = makes_of sh scripts h.task.past w (statement_of scripts w h.task.place) R (made.Update x) h.makes
adds_of sh scripts T w R (made.Migrate x) h = makes_of sh scripts h.task.past w (statement_of scripts w h.task.place) R (made.Migrate x) h.makes
adds_of sh scripts T w R (made.Return x) h = makes_of sh scripts h.task.past w (statement_of scripts w h.task.place) R (made.Return x) h.makes
adds_of sh scripts T w R (made.Delete x) h = makes_of sh scripts h.task.past w (statement_of scripts w h.task.place) R (made.Delete x) h.makes
adds_of sh scripts T w R (made.Commit x) h = makes_of sh scripts h.task.past w (statement_of scripts w h.task.place) R (made.Commit x) h.makes
adds_of sh scripts T w R (made.Back x) h = makes_of sh scripts h.task.past w (statement_of scripts w h.task.place) R (made.Back x) h.makes
adds_of sh scripts T w R (made.Ended x) h = makes_of sh scripts h.task.past w (statement_of scripts w h.task.place) R (made.Ended x) h.makes
adds_of sh scripts T w R r h = tt

-- a record of a transaction is of one session

abbrev pub NamesSession : Record → Type 0
NamesSession (made.Begin g) = Unit {0}
NamesSession (made.Insert x) = Unit {0}
NamesSession (made.Update x) = Unit {0}
NamesSession (made.Migrate x) = Unit {0}
NamesSession (made.Return x) = Unit {0}
NamesSession (made.Delete x) = Unit {0}
NamesSession (made.Commit x) = Unit {0}
NamesSession (made.Back x) = Unit {0}
NamesSession (made.Ended x) = Unit {0}
NamesSession r = ⊥

one_session : (sh : Shape) (Q : List Record) (r : Record) (v w : ℕ) → AreAllowed sh Q → NamesSession r → IsOf Q v r → IsOf Q w r → v ≡ w
one_session sh Q (made.Begin g) v w a n h k = sym h ∙ k
one_session sh Q (made.Insert x) v w a n h k = (sessions_own_transactions sh Q a).one v w x.txn h k
one_session sh Q (made.Update x) v w a n h k = (sessions_own_transactions sh Q a).one v w x.txn h k
one_session sh Q (made.Migrate x) v w a n h k = (sessions_own_transactions sh Q a).one v w x.txn h k
one_session sh Q (made.Return x) v w a n h k = (sessions_own_transactions sh Q a).one v w x.txn h k
one_session sh Q (made.Delete x) v w a n h k = (sessions_own_transactions sh Q a).one v w x.txn h k
one_session sh Q (made.Commit x) v w a n h k = (sessions_own_transactions sh Q a).one v w x.txn h k
one_session sh Q (made.Back x) v w a n h k = (sessions_own_transactions sh Q a).one v w x.txn h k
one_session sh Q (made.Ended x) v w a n h k = (sessions_own_transactions sh Q a).one v w x.txn h k
one_session sh Q r v w a n h k = absurd n

-- records

-- the history as it stands when a record is added after the records R
pub record Now (sh : Shape) (scripts : List (List Statement)) (from : ℕ) (R : List Record) (T : List HistoryItem) : Type 0 where
  pub told : AreTold sh scripts from R T
  pub reached_now : reached from T ≤ length R

does_belong : (sh : Shape) (scripts : List (List Statement)) (from : ℕ) (R : List Record) (T : List HistoryItem) (w : ℕ) (r : Record) → Now sh scripts from R T → Does sh scripts T w R r → BelongsTo sh scripts T R r w
does_belong sh scripts from R T w r n d =
    let way = ways_are_known sh scripts from R T w d.task n.told d.now in
    record { session = way.session; task = d.task; owned = owner_way T w (length R) d.task d.now way.within; makes = d.makes }

belongs_does : (sh : Shape) (scripts : List (List Statement)) (from : ℕ) (R : List Record) (T : List HistoryItem) (v : ℕ) (r : Record) → Now sh scripts from R T → BelongsTo sh scripts T R r v → Does sh scripts T v R r
belongs_does sh scripts from R T v r n b = record { task = b.task; now = owner_under sh scripts from R T v (length R) b.task n.told n.reached_now b.owned; makes = b.makes }

one_does : (sh : Shape) (scripts : List (List Statement)) (from : ℕ) (R : List Record) (T : List HistoryItem) (w : ℕ) (r : Record) → AreAllowed sh R → NamesSession r → Now sh scripts from R T → Does sh scripts T w R r → Belongs sh scripts T R r
one_does sh scripts from R T w r a s n d = record {
  session = w;
  to = does_belong sh scripts from R T w r n d;
  alone = λ v b. one_session sh R r v w a s (makes_of sh scripts b.task.past v (statement_of scripts v b.task.place) R r b.makes) (makes_of sh scripts d.task.past w (statement_of scripts w d.task.place) R r d.makes);
}

alone_does : (sh : Shape) (scripts : List (List Statement)) (from : ℕ) (R : List Record) (T : List HistoryItem) (w : ℕ) (r : Record) → Now sh scripts from R T → DoesAlone sh scripts T w R r → Belongs sh scripts T R r
alone_does sh scripts from R T w r n d = record {
  session = w;
  to = does_belong sh scripts from R T w r n d.does;
  alone = λ v b. elim (cases_Bool (eqb v w)) [
    | inl y ↦ eqb-true v w y
    | inr y ↦ absurd (d.alone v (eqb-false v w y) (belongs_does sh scripts from R T v r n b))
  ];
}

called_does : (sh : Shape) (scripts : List (List Statement)) (from : ℕ) (R : List Record) (T : List HistoryItem) (w : ℕ) (r : Record) → Now sh scripts from R T → Does sh scripts T w R r → IsCalledBy sh scripts T R r
called_does sh scripts from R T w r n d = record { session = w; to = does_belong sh scripts from R T w r n d }

adds_made : (sh : Shape) (scripts : List (List Statement)) (from : ℕ) (R : List Record) (T : List HistoryItem) (w : ℕ) (r : Record) → AreAllowed sh R → Now sh scripts from R T → MayAdd sh scripts T w R r → IsMade sh scripts T R r
adds_made sh scripts from R T w (made.Class k) a n (inl h) = inl h
adds_made sh scripts from R T w (made.Class k) a n (inr h) = inr (alone_does sh scripts from R T w (made.Class k) n h)
adds_made sh scripts from R T w (made.Clean c) a n h = h
adds_made sh scripts from R T w (made.Reuse q) a n h = tt
adds_made sh scripts from R T w (made.Extend e) a n (inl h) = inl h
adds_made sh scripts from R T w (made.Extend e) a n (inr h) = inr (called_does sh scripts from R T w (made.Extend e) n h)
adds_made sh scripts from R T w (made.FormatBlock f) a n h = called_does sh scripts from R T w (made.FormatBlock f) n h
adds_made sh scripts from R T w (made.Advance x) a n h = called_does sh scripts from R T w (made.Advance x) n h
adds_made sh scripts from R T w (made.Table t) a n h = alone_does sh scripts from R T w (made.Table t) n h
adds_made sh scripts from R T w (made.Movement m) a n h = alone_does sh scripts from R T w (made.Movement m) n h
adds_made sh scripts from R T w (made.Lower l) a n h = alone_does sh scripts from R T w (made.Lower l) n h
adds_made sh scripts from R T w (made.Move m) a n h = alone_does sh scripts from R T w (made.Move m) n h
adds_made sh scripts from R T w (made.Begin x) a n h = one_does sh scripts from R T w (made.Begin x) a tt n h
adds_made sh scripts from R T w (made.Insert x) a n h = one_does sh scripts from R T w (made.Insert x) a tt n h
adds_made sh scripts from R T w (made.Update x) a n h = one_does sh scripts from R T w (made.Update x) a tt n h
adds_made sh scripts from R T w (made.Migrate x) a n h = one_does sh scripts from R T w (made.Migrate x) a tt n h
adds_made sh scripts from R T w (made.Return x) a n h = one_does sh scripts from R T w (made.Return x) a tt n h
adds_made sh scripts from R T w (made.Delete x) a n h = one_does sh scripts from R T w (made.Delete x) a tt n h
adds_made sh scripts from R T w (made.Commit x) a n h = one_does sh scripts from R T w (made.Commit x) a tt n h
adds_made sh scripts from R T w (made.Back x) a n h = one_does sh scripts from R T w (made.Back x) a tt n h
adds_made sh scripts from R T w (made.Ended x) a n h = one_does sh scripts from R T w (made.Ended x) a tt n h

-- the parts of the whole that records keep
pub record KeptWhole (sh : Shape) (scripts : List (List Statement)) (R0 Q R : List Record) (T : List HistoryItem) : Type 0 where
  pub longer : length Q ≤ length R
  pub made : AreMade sh scripts T R0 R
  pub told : AreTold sh scripts (length R0) R T

records_keep : (sh : Shape) (scripts : List (List Statement)) (R0 Q : List Record) (T : List HistoryItem) (w : ℕ) (R : List Record) → IsLegal sh scripts R0 Q T → AreAllowed sh R → Goes sh scripts T w Q R → KeptWhole sh scripts R0 Q R T
records_keep sh scripts R0 Q T w R h a goes_none = record { longer = le_refl (length Q); made = h.made; told = h.told }
records_keep sh scripts R0 Q T w S h a (goes_one {R = R} r g m) =
    let k = records_keep sh scripts R0 Q T w R h a.0 g in
    let l : length R0 ≤ length Q = made_longer sh scripts T R0 Q h.made in
    let n : Now sh scripts (length R0) R T = record { told = k.told; reached_now = le_trans (reached_within sh scripts (length R0) Q T l h.told) k.longer } in
    record {
      longer = (let x : length Q ≤ length R = k.longer in omega (arith, x));
      made = made_one r k.made (adds_made sh scripts (length R0) R T w r a.0 n m);
      told = told_more sh scripts (length R0) R r T k.told;
    }

pub records_are_legal : RecordsAreLegal
records_are_legal sh scripts R0 Q R T w lawful g h =
    let k = records_keep sh scripts R0 Q T w R h lawful.allowed g in
    record { lawful = lawful; made = k.made; told = k.told }

-- each record after the first ones was made

made_at : (sh : Shape) (scripts : List (List Statement)) (R0 Q : List Record) (T : List HistoryItem) (r : Record) (R : List Record) → AreMade sh scripts T R0 R → Extends (r ∷ Q) R → length R0 ≤ length Q → IsMade sh scripts T Q r
made_at sh scripts R0 Q T r R made_none e l = let k = extends_length (r ∷ Q) R e in absurd (omega (arith, l, k))
made_at sh scripts R0 Q T r S (made_one x h m) same l = m
made_at sh scripts R0 Q T r S (made_one {R = R} x h m) (more y e) l = made_at sh scripts R0 Q T r R h e l

of_one : (sh : Shape) (scripts : List (List Statement)) (T : List HistoryItem) (Q : List Record) (r : Record) → is_of_one r ≡ true → IsMade sh scripts T Q r → Belongs sh scripts T Q r
of_one sh scripts T Q (made.Class k) e h = absurd (true≢false (sym e))
of_one sh scripts T Q (made.Clean c) e h = absurd (true≢false (sym e))
of_one sh scripts T Q (made.Reuse q) e h = absurd (true≢false (sym e))
of_one sh scripts T Q (made.Extend x) e h = absurd (true≢false (sym e))
of_one sh scripts T Q (made.FormatBlock f) e h = absurd (true≢false (sym e))
of_one sh scripts T Q (made.Advance a) e h = absurd (true≢false (sym e))
of_one sh scripts T Q r e h = h

pub records_belong : RecordsBelong
records_belong sh scripts R0 Q R T r one h e l = of_one sh scripts T Q r one (made_at sh scripts R0 Q T r R h.made e l)

pub moves_belong : MovesBelong
moves_belong sh scripts R0 Q R T m w task name compact b s o e t = sym (b.alone w (record { session = s; task = task; owned = o; makes = subst (λ (st : Option Statement). Makes sh scripts task.past w st Q (made.Move m)) (sym e) t }))
