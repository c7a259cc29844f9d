-- The first small history is legal.
use Rattle.std.proofs.Common.{◌≡◌, ℕ, ◌<◌, ◌≤◌, Bool, true, false, ◌&&◌, List, [], length, drop, Option, Some, None, refl, sym, ◌∙◌, ap, subst, arith, lit<, lit≤, true≢false, inl}
use Rattle.redo_model.specs.Records.{Record}
use Rattle.redo_model.specs.Model.{is_formatted, IsRowBlock, table_count, table_named}
use Rattle.redo_model.specs.Worked.{small, hello, nine}
use Rattle.redo_model.proofs.LawfulRuns.{nine_lawful}
use Rattle.session_laws.specs.Sessions.{own_of}
use Rattle.script_text.specs.declared.statement.Statement.{Statement}
use Rattle.script_text.specs.declared.statement.Statement.TheVariants as asked
use Rattle.history_model.specs.declared.limit.TheConstants.{NEW_WORK_RECORDS}
use Rattle.history_model.specs.declared.history.HistoryItem.{HistoryItem}
use Rattle.history_model.specs.History.{Task, statement_of, owner}
use Rattle.history_model.specs.Spans.{Span, span_of}
use Rattle.history_model.specs.Makes.{Makes}
use Rattle.history_model.specs.Legal.{Belongs, IsCalledBy, AreMade, made_none, made_one, AreTold, IsLegal}
use Rattle.history_model.specs.Worked.{name_t, label_a, one_script, one_history, one_inserted}
use Rattle.history_model.proofs.Passing.{passes_first}
use Rattle.history_model.specs.Passing.{FirstPass}

pub some_none : {A : Type 0} (x : A) → ◌≡◌ {A = Option A} (Some x) None → ⊥
some_none x e = cc

pub none_some : {A : Type 0} (x : A) → ◌≡◌ {A = Option A} None (Some x) → ⊥
none_some x e = cc

none_of : (v : Bool) → (v && false) ≡ true → ⊥
none_of true e = true≢false (sym e)
none_of false e = true≢false (sym e)

-- a log of few records isn't full
pub not_full : (n : ℕ) → n < NEW_WORK_RECORDS → NEW_WORK_RECORDS ≤ n → ⊥
not_full n l m = omega (arith, l, m)

-- where nothing is formatted yet no block is one of the table's under its high mark
pub none_formatted : (Q : List Record) (b : ℕ) (v : Bool) (A : Type 0) → is_formatted small Q b ≡ (v && false) → IsRowBlock small Q 1 b → A
none_formatted Q b v A e h = absurd (none_of v (sym e ∙ h.formatted))

-- which statement each record belongs to

by_one : (Q : List Record) (r : Record) (task : Task) → owner one_history 1 (length Q) ≡ Some task → Makes small one_script task.past 1 (statement_of one_script 1 task.place) Q r → Belongs small one_script one_history Q r
by_one Q r task o m = record {
  session = 1;
  to = record { session = record { from = lit≤ tt; to = lit≤ tt }; task = task; owned = o; makes = m };
  alone = λ v b. let f = b.session.from in let t : v ≤ 1 = b.session.to in omega (arith, f, t);
}

called_by : (Q : List Record) (r : Record) (task : Task) → owner one_history 1 (length Q) ≡ Some task → Makes small one_script task.past 1 (statement_of one_script 1 task.place) Q r → IsCalledBy small one_script one_history Q r
called_by Q r task o m = record { session = 1; to = record { session = record { from = lit≤ tt; to = lit≤ tt }; task = task; owned = o; makes = m } }

made : AreMade small one_script one_history [] nine
made =
    made_one _ (made_one _ (made_one _ (made_one _ (made_one _ (made_one _ (made_one _ (made_one _ (made_one _ made_none
    (by_one _ _ _ refl (record { named = refl; share = refl })))
    (inl refl))
    (called_by _ _ _ refl (record { table = refl; none = λ b h. none_formatted _ b _ _ refl h })))
    (called_by _ _ _ refl (record { table = refl; none = λ b h. none_formatted _ b _ _ refl h })))
    (by_one _ _ _ refl refl))
    tt)
    (by_one _ _ _ refl (record { own = refl; table = refl }, refl)))
    (by_one _ _ _ refl refl))
    (record { slot = 0; there = lit< tt; txn = 1; names = refl; number = 1; committed = refl; known = refl })

-- causes that are passed over

-- by a table, where its name is new and its session has no transaction
pub table_passes : (x : Span) → x.begun ≡ [] → FirstPass small x (asked.Table name_t 10)
table_passes x e = record {
  table = λ h. h;
  new_name = λ h. none_some _ (sym (ap (λ (R : List Record). table_named R name_t) e) ∙ h.1);
  few_tables = λ h. let l : 32 ≤ 0 = subst (λ (R : List Record). 32 ≤ table_count R) e h.1 in omega (arith, l);
  movement = λ h. h;
  no_transaction = λ h. none_some _ (sym (ap (λ (R : List Record). own_of R x.session) e) ∙ h.1);
  unshrunk = λ v h. h;
  log = λ h. not_full 0 (lit< tt) (subst (λ (R : List Record). NEW_WORK_RECORDS ≤ length R) e h);
  data_block = λ b h. h;
  value = λ v h. h;
  label = λ l h. none_some _ h.0;
}

-- by an insert, where its table is there
pub insert_passes : (x : Span) (text : List ℕ) (o : ℕ) → table_named x.begun name_t ≡ Some o → length x.begun < NEW_WORK_RECORDS → FirstPass small x (asked.Insert name_t label_a text)
insert_passes x text o e l = record {
  table = λ h. some_none o (sym e ∙ h);
  new_name = λ h. h;
  few_tables = λ h. h;
  movement = λ h. h;
  no_transaction = λ h. h;
  unshrunk = λ v h. h;
  log = λ h. not_full (length x.begun) l h;
  data_block = λ b h. h;
  value = λ v h. h;
  label = λ k h. none_some _ h.0;
}

pub commit_passes : (x : Span) → FirstPass small x asked.Commit
commit_passes x = record {
  table = λ h. h;
  new_name = λ h. h;
  few_tables = λ h. h;
  movement = λ h. h;
  no_transaction = λ h. h;
  unshrunk = λ v h. h;
  log = λ h. h;
  data_block = λ b h. h;
  value = λ v h. h;
  label = λ l h. none_some _ h.0;
}

pub scan_passes : (x : Span) (o : ℕ) → table_named x.begun name_t ≡ Some o → FirstPass small x (asked.Scan name_t)
scan_passes x o e = record {
  table = λ h. some_none o (sym e ∙ h);
  new_name = λ h. h;
  few_tables = λ h. h;
  movement = λ h. h;
  no_transaction = λ h. h;
  unshrunk = λ v h. h;
  log = λ h. h;
  data_block = λ b h. h;
  value = λ v h. h;
  label = λ l h. none_some _ h.0;
}

-- the history

-- the span of a statement of session w with so many before it
abbrev pub span_at : List (List Statement) → List Record → ℕ → ℕ → ℕ → List HistoryItem → ℕ → Span
span_at scripts R w place begins past ends = span_of scripts R w (record { place = place; begins = begins; past = past }) ends

told_inserted : AreTold small one_script 0 nine one_inserted
told_inserted = (
  record {
    task = _;
    started = refl;
    begins = refl;
    ordinal = refl;
    order = lit≤ tt;
    grows = lit≤ tt;
    within = lit≤ tt;
    means = record { before = _; body = _; change = record { table = refl; own = refl; one = refl; event = drop 5 nine; idle = record { own = refl; rows = refl; begins = refl }; begin = Some (record { txn = 1; session = 1; entry = 0; control = 0 }); reuse = Some (record { block = 37; sequence = 1 }); before_is = refl }; number = refl; text_is = refl; block = 43; is_found = record { sought = _; seeks = record { obj = 1; table = refl; sought = refl }; hint = None; found_is = refl }; at = refl; ends = refl };
    passes = passes_first small (span_at one_script nine 1 1 2 (drop 2 one_inserted) 7) _ 0 (insert_passes (span_at one_script nine 1 1 2 (drop 2 one_inserted) 7) hello 1 refl (lit< tt));
  },
  (
    record { session = record { from = lit≤ tt; to = lit≤ tt }; idle = refl; place = lit≤ tt; closing = λ e. absurd (some_none _ e); order = lit≤ tt; within = lit≤ tt },
    (
      record {
        task = _;
        started = refl;
        begins = refl;
        ordinal = refl;
        order = lit≤ tt;
        grows = lit≤ tt;
        within = lit≤ tt;
        means = (refl, record { table = _; extend = _; named = refl; share = refl; ends = refl });
        passes = passes_first small (span_at one_script nine 1 0 0 [] 2) _ 0 (table_passes (span_at one_script nine 1 0 0 [] 2) refl);
      },
      (
        record { session = record { from = lit≤ tt; to = lit≤ tt }; idle = refl; place = lit≤ tt; closing = λ e. absurd (some_none _ e); order = lit≤ tt; within = lit≤ tt },
        tt,
      ),
    ),
  ),
)

told : AreTold small one_script 0 nine one_history
told = (
  record {
    task = _;
    started = refl;
    begins = refl;
    ordinal = refl;
    order = lit≤ tt;
    grows = lit≤ tt;
    within = lit≤ tt;
    means = (refl, record { obj = 1; table = refl; number = refl; each = refl; there = refl });
    passes = passes_first small (span_at one_script nine 1 3 9 (drop 2 one_history) 9) _ 0 (scan_passes (span_at one_script nine 1 3 9 (drop 2 one_history) 9) 1 refl);
  },
  (
    record { session = record { from = lit≤ tt; to = lit≤ tt }; idle = refl; place = lit≤ tt; closing = λ e. absurd (some_none _ e); order = lit≤ tt; within = lit≤ tt },
    (
      record {
        task = _;
        started = refl;
        begins = refl;
        ordinal = refl;
        order = lit≤ tt;
        grows = lit≤ tt;
        within = lit≤ tt;
        means = record { commit = _; own = refl; number_is = refl; ends = refl };
        passes = passes_first small (span_at one_script nine 1 2 7 one_inserted 8) _ 0 (commit_passes (span_at one_script nine 1 2 7 one_inserted 8));
      },
      (
        record { session = record { from = lit≤ tt; to = lit≤ tt }; idle = refl; place = lit≤ tt; closing = λ e. absurd (some_none _ e); order = lit≤ tt; within = lit≤ tt },
        told_inserted,
      ),
    ),
  ),
)

pub one_legal : IsLegal small one_script [] nine one_history
one_legal = record { lawful = nine_lawful; made = made; told = told }
