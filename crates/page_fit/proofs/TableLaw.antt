-- The page of the transaction table.
use Rattle.std.proofs.Common.{◌≡◌, ◌⊎◌, ℕ, zero, suc, ◌%◌, ◌<◌, ◌≤◌, Bool, true, false, cond, not, ◌&&◌, ◌||◌, eqb, List, [], ◌∷◌, length, replicate, set, get_or, find, Option, Some, None, refl, sym, ◌∙◌, ap, ap₂, subst, arith, inl, inr}
use Rattle.std.proofs.lemmas.Bool.{true≢false, cases_Bool, eqb-true, eqb-false, eq-eqb, ne_eqb, cond-true, cond-false}
use Rattle.std.proofs.lemmas.List.{get_or-set_same, get_or-set_other, length-set}
use Rattle.std.proofs.lemmas.Option.{slice_get-get_or}
use Rattle.seg_words.specs.Types.{TXN_ENTRIES, EXTENTS_OF_L2}
use Rattle.seg_base.specs.declared.shape.Shape.{Shape}
use Rattle.seg_base.specs.declared.slot.UndoAddr.{UndoAddr}
use Rattle.seg_base.specs.declared.slot.Writer.{Writer}
use Rattle.seg_base.specs.declared.slot.Writer.TheVariants.{By, At}
use Rattle.seg_base.specs.Places.{is_shape}
use Rattle.txn_block.specs.declared.entry.Outcome.{Outcome}
use Rattle.txn_block.specs.declared.entry.Outcome.TheVariants.{Active, Committed, RolledBack}
use Rattle.txn_block.specs.declared.entry.TableEntry.{TableEntry}
use Rattle.txn_block.specs.declared.entry.TableEntry.TheVariants.{Unused, Used}
use Rattle.txn_block.specs.Entries.{names, undo_told, last_undo_in}
use Rattle.txn_block.specs.Tables.{TxnTable}
use Rattle.redo_record.specs.declared.record.Record.{Record}
use Rattle.redo_record.specs.declared.record.Record.TheVariants.{Table, Movement, Extend, FormatBlock, Class, Advance, Lower, Begin, Reuse, Insert, Update, Migrate, Return, Delete, Commit, Back, Ended, Move, Clean}
use Rattle.redo_record.specs.declared.row.RowBody.{RowBody}
use Rattle.redo_record.specs.declared.space.ExtendRecord.{ExtendRecord}
use Rattle.redo_record.specs.declared.row.BackRecord.{BackRecord}
use Rattle.redo_record.specs.declared.transaction.BeginRecord.{BeginRecord}
use Rattle.redo_record.specs.declared.transaction.CommitRecord.{CommitRecord}
use Rattle.redo_record.specs.declared.transaction.EndedRecord.{EndedRecord}
use Rattle.redo_record.specs.declared.transaction.ReuseRecord.{ReuseRecord}
use Rattle.redo_model.specs.Effects.{Step, Still, Adds, effect_of, row_step}
use Rattle.redo_model.specs.Ordinals.{row_count, txn_count}
use Rattle.redo_model.specs.Steps.{is_addr, is_by, standing, newest_of, undo_of_step, last_undo, without_step}
use Rattle.redo_model.specs.Transactions.{control_number, is_active, commit_number, entry_of, user_of, is_forgotten}
use Rattle.redo_model.specs.Undo.{current_undo}
use Rattle.redo_model.specs.AllowedRows.{BackAllowed}
use Rattle.redo_model.specs.AllowedTransactions.{BeginAllowed, CommitAllowed, EndedAllowed}
use Rattle.redo_model.specs.Lawful.{IsKindAllowed, IsCalledFor, AreAllowed}
use Rattle.redo_laws.proofs.lists.Every.{Every}
use Rattle.redo_laws.proofs.steps.Facts.{BegunBy}
use Rattle.redo_laws.proofs.steps.Held.{Tops, tops}
use Rattle.redo_laws.proofs.spread.Spread.{good}
use Rattle.redo_laws.proofs.numbers.TxnTable.{TxnTable as Known, txn_table}
use Rattle.redo_laws.proofs.spread.Whole.{whole}
use Rattle.page_set.specs.declared.page.Page.{Page}
use Rattle.page_set.specs.declared.page.Page.TheVariants as pages
use Rattle.page_set.specs.Txns.{with_entry, undo_at, txns_after}
use Rattle.page_set.specs.Pages.{dba_of, new_rows, new_undo, new_first, new_second, new_third, new_header}
use Rattle.page_set.specs.Started.{start, or_kept, as_txns, as_catalogue, as_space, table_started}
use Rattle.page_set.specs.Changes.{page_after, changed_page}
use Rattle.page_set.specs.Among.{is_among}
use Rattle.page_set.specs.Folded.{touched, page_of}
use Rattle.redo_record.specs.declared.space.TableRecord.{TableRecord}
use Rattle.sort_laws.proofs.MeetsLaw.{table_counts, step_begun, all_empty, called_step}
use Rattle.sort_laws.proofs.SortsLaw.{sorts_are_made}
use Rattle.page_model.specs.Types.{outcome_when_over, entry_used_by, HoldsTable}
use Rattle.page_fit.specs.Tables.{TablesSay}
use Rattle.page_fit.proofs.Sorted.{sort_name, pages_sorted}
use Rattle.page_fit.proofs.FitLaw.{one_plain, may_migrate, may_delete, taken_entry}
use Rattle.sort_laws.specs.Sorts.{Sort, Blank, Txns, sort_of}

-- entries

told_same : (S R : List Record) (o : Option ℕ) → ((t : ℕ) → o ≡ Some t → (is_active S t ≡ is_active R t) × (commit_number S t ≡ commit_number R t) × (last_undo S t ≡ last_undo R t)) → entry_used_by S o ≡ entry_used_by R o
told_same S R None h = refl
told_same S R (Some t) h =
    let k = h t refl in
    ap₂ (λ (o : Outcome) (u : Option UndoAddr). Used (record { txn = t; outcome = o; last_undo = u })) (ap₂ (λ b c. cond b Active (outcome_when_over c)) k.0 k.1) k.2

-- a table with entry i written anew says it of S, where the other users are told as before
written : (S : List Record) (es : List TableEntry) (i : ℕ) (e : TableEntry) → length es ≡ TXN_ENTRIES → i < TXN_ENTRIES → e ≡ entry_used_by S (user_of S i) → ((j : ℕ) → j < TXN_ENTRIES → (j ≡ i → ⊥) → get_or es j Unused ≡ entry_used_by S (user_of S j))
    → (j : ℕ) → j < TXN_ENTRIES → get_or (set es i e) j Unused ≡ entry_used_by S (user_of S j)
written S es i e n l h k j m = elim (cases_Bool (eqb j i)) [
  | inl y ↦
      let same : j ≡ i = eqb-true j i y in
      subst (λ x. get_or (set es i e) x Unused ≡ entry_used_by S (user_of S x)) (sym same) (get_or-set_same es i e Unused (omega (arith, n, l)) ∙ h)
  | inr f ↦ get_or-set_other es i j e Unused (eqb-false j i f) ∙ k j m (eqb-false j i f)
]

-- the entry of a transaction that has one is its own
record Own (R : List Record) (t i : ℕ) : Type 0 where
  few : i < TXN_ENTRIES
  user : user_of R i ≡ Some t
  only : (j : ℕ) → user_of R j ≡ Some t → j ≡ i

own_of : (R : List Record) (t i : ℕ) → Known R → is_active R t ≡ true → entry_of R t ≡ Some i → Own R t i
own_of R t i w on e = record {
  few = (let x = w.entered t (w.begun t on) in let same : x.0 ≡ i = one x.0 i (sym x.1 ∙ e) in subst (λ n. n < TXN_ENTRIES) same x.2);
  user = w.user t i e (w.kept t on);
  only = λ j u. one j i (sym (w.last t j u).0 ∙ e);
}
  where
    one : (a b : ℕ) → ◌≡◌ {A = Option ℕ} (Some a) (Some b) → a ≡ b
    one a b e = cc

-- another's user isn't t
other_user : (R : List Record) (t i j u : ℕ) → Own R t i → (j ≡ i → ⊥) → user_of R j ≡ Some u → eqb t u ≡ false
other_user R t i j u o n e = ne_eqb t u (λ x. n (o.only j (e ∙ ap (λ (z : ℕ). Some z) (sym x))))

-- a row record

row_says : (R : List Record) (r : Record) (w : RowBody) (del : Bool) (t : TxnTable) (lsn : ℕ) → Known R → is_active R w.txn ≡ true → entry_of R w.txn ≡ Some w.entry
    → ((u : ℕ) → (is_active (r ∷ R) u ≡ is_active R u) × (commit_number (r ∷ R) u ≡ commit_number R u) × (last_undo (r ∷ R) u ≡ undo_of_step (cond (eqb w.txn u) (Some (row_step w del)) (newest_of (standing R) u)))) → ((i : ℕ) → user_of (r ∷ R) i ≡ user_of R i)
    → length t.entries ≡ TXN_ENTRIES → ((i : ℕ) → i < TXN_ENTRIES → get_or t.entries i Unused ≡ entry_used_by R (user_of R i))
    → (j : ℕ) → j < TXN_ENTRIES → get_or (set t.entries w.entry (Used (record { txn = w.txn; outcome = Active; last_undo = Some w.undo }))) j Unused ≡ entry_used_by (r ∷ R) (user_of (r ∷ R) j)
row_says R r w del t lsn k on e same users n h =
    let o = own_of R w.txn w.entry k on e in
    let x = same w.txn in
    let mine : entry_used_by (r ∷ R) (Some w.txn) ≡ Used (record { txn = w.txn; outcome = Active; last_undo = Some w.undo }) =
    ap₂ (λ (b : Outcome) (u : Option UndoAddr). Used (record { txn = w.txn; outcome = b; last_undo = u })) (cond-true _ _ _ (x.0 ∙ on)) (x.2 ∙ ap undo_of_step (cond-true _ _ _ (eq-eqb w.txn w.txn refl))) in
    written (r ∷ R) t.entries w.entry _ n o.few (sym (ap (entry_used_by (r ∷ R)) (users w.entry ∙ o.user) ∙ mine))
    (λ j m ne. h j m ∙ sym (ap (entry_used_by (r ∷ R)) (users j) ∙ told_same (r ∷ R) R (user_of R j) (λ u q.
    let y = same u in
    let off = other_user R w.txn w.entry j u o ne q in
    (y.0, y.1, y.2 ∙ ap undo_of_step (cond-false _ _ _ off)))))

-- before the first Begin

pub no_control : (R : List Record) → txn_count R ≡ 0 → control_number R ≡ 0
no_control [] n = refl
no_control (Begin g ∷ R) n = absurd (omega (arith, n))
no_control (Commit c ∷ R) n = no_control R n
no_control (Ended c ∷ R) n = no_control R n
no_control (_ ∷ R) n = no_control R n

pub no_user : (R : List Record) (i : ℕ) → txn_count R ≡ 0 → user_of R i ≡ None
no_user [] i n = refl
no_user (Begin g ∷ R) i n = absurd (omega (arith, n))
no_user (Commit c ∷ R) i n = no_user R i n
no_user (Ended c ∷ R) i n = no_user R i n
no_user (_ ∷ R) i n = no_user R i n

pub no_row : (sh : Shape) (R : List Record) → AreAllowed sh R → txn_count R ≡ 0 → row_count R ≡ 0
no_row sh [] h n = refl
no_row sh (Insert w ∷ R) h n = (let l = table_counts sh R (Insert w) h h.1.kind refl in absurd (omega (arith, l, n)))
no_row sh (Begin g ∷ R) h n = absurd (omega (arith, n))
no_row sh (_ ∷ R) h n = no_row sh R h.0 n

abbrev pub CalledFor : List Record → Type 0
CalledFor (Reuse q ∷ R) = Unit {0}
CalledFor _ = ⊥

called_adds : (R : List Record) (r : Record) → CalledFor R → IsCalledFor R r → (st : Step) × (effect_of r ≡ Adds st)
called_adds (Reuse q ∷ R) r c k = called_step R (effect_of r) k
called_adds [] r c k = absurd c
called_adds (x ∷ R) r c k = absurd c

pub no_current : (sh : Shape) (R : List Record) → AreAllowed sh R → txn_count R ≡ 0 → (current_undo R ≡ None) ⊎ CalledFor R
no_current sh [] h n = inl refl
no_current sh (Reuse q ∷ R) h n = inr tt
no_current sh (Begin g ∷ R) h n = absurd (omega (arith, n))
no_current sh (r ∷ R) h n = elim (no_current sh R h.0 n) [
  | inl y ↦ inl y
  | inr c ↦ let x = called_adds R r c h.1.called_for in (let l = step_begun sh R r x.0 h h.1.kind x.1 (all_empty sh R h.0 n) in absurd (omega (arith, l, n)))
]

-- one record

still_says : (R : List Record) (r : Record) (t : TxnTable) (lsn : ℕ) → control_number (r ∷ R) ≡ control_number R → txn_count (r ∷ R) ≡ txn_count R → row_count (r ∷ R) ≡ row_count R → current_undo (r ∷ R) ≡ current_undo R
    → ((i : ℕ) → user_of (r ∷ R) i ≡ user_of R i) → ((u : ℕ) → (is_active (r ∷ R) u ≡ is_active R u) × (commit_number (r ∷ R) u ≡ commit_number R u) × (last_undo (r ∷ R) u ≡ last_undo R u)) → HoldsTable R t → HoldsTable (r ∷ R) (record t { lsn = lsn })
still_says R r t lsn c n w u users same h = record {
  control = h.control ∙ sym c;
  last_txn = h.last_txn ∙ sym n;
  last_row = h.last_row ∙ sym w;
  current = h.current ∙ sym u;
  count = h.count;
  entries = λ i m. h.entries i m ∙ sym (ap (entry_used_by (r ∷ R)) (users i) ∙ told_same (r ∷ R) R (user_of R i) (λ x e. same x));
}

reuse_says : (R : List Record) (q : ReuseRecord) (t : TxnTable) (lsn : ℕ) → HoldsTable R t → HoldsTable (Reuse q ∷ R) (txns_after (Reuse q) lsn t)
reuse_says R q t lsn h = record {
  control = h.control;
  last_txn = h.last_txn;
  last_row = h.last_row;
  current = refl;
  count = h.count;
  entries = λ i m. h.entries i m ∙ sym (told_same (Reuse q ∷ R) R (user_of R i) (λ x e. (refl, refl, refl)));
}

insert_says : (R : List Record) (w : RowBody) (t : TxnTable) (lsn : ℕ) → Known R → is_active R w.txn ≡ true → entry_of R w.txn ≡ Some w.entry → w.row ≡ suc (row_count R) → HoldsTable R t → HoldsTable (Insert w ∷ R) (txns_after (Insert w) lsn t)
insert_says R w t lsn k on e row h = record {
  control = h.control;
  last_txn = h.last_txn;
  last_row = row;
  current = h.current;
  count = length-set t.entries w.entry _ ∙ h.count;
  entries = row_says R (Insert w) w false t lsn k on e (λ u. (refl, refl, refl)) (λ i. refl) h.count h.entries;
}

row_kind_says : (R : List Record) (r : Record) (w : RowBody) (del : Bool) (t : TxnTable) (lsn : ℕ) → Known R → is_active R w.txn ≡ true → entry_of R w.txn ≡ Some w.entry
    → control_number (r ∷ R) ≡ control_number R → txn_count (r ∷ R) ≡ txn_count R → row_count (r ∷ R) ≡ row_count R → current_undo (r ∷ R) ≡ current_undo R
    → ((u : ℕ) → (is_active (r ∷ R) u ≡ is_active R u) × (commit_number (r ∷ R) u ≡ commit_number R u) × (last_undo (r ∷ R) u ≡ undo_of_step (cond (eqb w.txn u) (Some (row_step w del)) (newest_of (standing R) u)))) → ((i : ℕ) → user_of (r ∷ R) i ≡ user_of R i)
    → HoldsTable R t → HoldsTable (r ∷ R) (record (with_entry t w.entry w.txn Active (Some w.undo)) { lsn = lsn })
row_kind_says R r w del t lsn k on e c n rows u same users h = record {
  control = h.control ∙ sym c;
  last_txn = h.last_txn ∙ sym n;
  last_row = h.last_row ∙ sym rows;
  current = h.current ∙ sym u;
  count = length-set t.entries w.entry _ ∙ h.count;
  entries = row_says R r w del t lsn k on e same users h.count h.entries;
}

-- the last undo that an entry keeps
kept_undo : (R : List Record) (t : TxnTable) (x i : ℕ) → HoldsTable R t → i < TXN_ENTRIES → user_of R i ≡ Some x → undo_at t i ≡ last_undo R x
kept_undo R t x i h l u =
    let n = h.count in
    ap undo_told (slice_get-get_or t.entries i Unused (omega (arith, n, l))) ∙ ap (λ (e : TableEntry). undo_told (Some e)) (h.entries i l ∙ ap (entry_used_by R) u)

commit_says : (R : List Record) (c : CommitRecord) (t : TxnTable) (lsn : ℕ) → Known R → CommitAllowed R c → HoldsTable R t → HoldsTable (Commit c ∷ R) (txns_after (Commit c) lsn t)
commit_says R c t lsn k a h =
    let o = own_of R c.txn c.entry k a.active a.entry in
    let self : eqb c.txn c.txn ≡ true = eq-eqb c.txn c.txn refl in
    let ended : is_active (Commit c ∷ R) c.txn ≡ false = ap (λ v. not v && is_active R c.txn) self in
    let number : commit_number (Commit c ∷ R) c.txn ≡ Some c.number = cond-true _ _ _ self ∙ ap (λ (n : ℕ). Some n) (sym a.number) in
    let mine : entry_used_by (Commit c ∷ R) (Some c.txn) ≡ Used (record { txn = c.txn; outcome = Committed c.number; last_undo = undo_at t c.entry }) =
    ap₂ (λ (b : Outcome) (u : Option UndoAddr). Used (record { txn = c.txn; outcome = b; last_undo = u })) (cond-false _ _ _ ended ∙ ap outcome_when_over number) (sym (kept_undo R t c.txn c.entry h o.few o.user)) in
    record {
      control = h.control;
      last_txn = h.last_txn;
      last_row = h.last_row;
      current = h.current;
      count = length-set t.entries c.entry _ ∙ h.count;
      entries = written (Commit c ∷ R) t.entries c.entry _ h.count o.few (sym (ap (entry_used_by (Commit c ∷ R)) o.user ∙ mine))
          (λ j m ne. h.entries j m ∙ sym (told_same (Commit c ∷ R) R (user_of R j) (λ u q.
          let off = other_user R c.txn c.entry j u o ne q in
          (ap (λ v. not v && is_active R u) off, cond-false _ _ _ off, refl))));
    }

ended_says : (R : List Record) (x : EndedRecord) (t : TxnTable) (lsn : ℕ) → Known R → EndedAllowed R x → HoldsTable R t → HoldsTable (Ended x ∷ R) (txns_after (Ended x) lsn t)
ended_says R x t lsn k a h =
    let o = own_of R x.txn x.entry k a.active a.entry in
    let self : eqb x.txn x.txn ≡ true = eq-eqb x.txn x.txn refl in
    let ended : is_active (Ended x ∷ R) x.txn ≡ false = ap (λ v. not v && is_active R x.txn) self in
    let mine : entry_used_by (Ended x ∷ R) (Some x.txn) ≡ Used (record { txn = x.txn; outcome = RolledBack; last_undo = undo_at t x.entry }) =
    ap₂ (λ (b : Outcome) (u : Option UndoAddr). Used (record { txn = x.txn; outcome = b; last_undo = u })) (cond-false _ _ _ ended ∙ ap outcome_when_over (no_number (commit_number R x.txn) refl)) (sym (kept_undo R t x.txn x.entry h o.few o.user)) in
    record {
      control = h.control;
      last_txn = h.last_txn;
      last_row = h.last_row;
      current = h.current;
      count = length-set t.entries x.entry _ ∙ h.count;
      entries = written (Ended x ∷ R) t.entries x.entry _ h.count o.few (sym (ap (entry_used_by (Ended x ∷ R)) o.user ∙ mine))
          (λ j m ne. h.entries j m ∙ sym (told_same (Ended x ∷ R) R (user_of R j) (λ u q.
          let off = other_user R x.txn x.entry j u o ne q in
          (ap (λ v. not v && is_active R u) off, refl, refl))));
    }
  where
    no_number : (n : Option ℕ) → commit_number R x.txn ≡ n → n ≡ None
    no_number None e = refl
    no_number (Some c) e = absurd (true≢false (sym a.active ∙ (k.done x.txn c e).0))

newest_without : (a : UndoAddr) (v u : ℕ) (ss : List Step) → (u ≡ v → ⊥) → Tops a v ss → newest_of (without_step a ss) u ≡ newest_of ss u
newest_without a v u [] n h = refl
newest_without a v u (s ∷ ss) n h =
    (elim (is_addr s.undo a) as (λ b. is_addr s.undo a ≡ b → newest_of (cond (not b) (s ∷ without_step a ss) (without_step a ss)) u ≡ cond (is_by s.by u) (Some s) (newest_of ss u)) [
      | true ↦ λ e. newest_without a v u ss n h.2 ∙ sym (cond-false _ _ _ (apart s.by (h.0 e)))
      | false ↦ λ e. ap (λ (o : Option Step). cond (is_by s.by u) (Some s) o) (newest_without a v u ss n h.2)
    ]) refl
  where
    apart : (w : Writer) → is_by w v ≡ true → is_by w u ≡ false
    apart (By x) e = ne_eqb x u (λ y. n (sym y ∙ eqb-true x v e))
    apart (At x) e = refl

back_says : (sh : Shape) (R : List Record) (k : BackRecord) (t : TxnTable) (lsn : ℕ) → AreAllowed sh R → Known R → BackAllowed R k → HoldsTable R t → HoldsTable (Back k ∷ R) (txns_after (Back k) lsn t)
back_says sh R k t lsn al w a h =
    let o = own_of R k.txn k.entry w a.active a.entry in
    let top : Tops k.undo k.txn (standing R) = subst (λ x. Tops x k.txn (standing R)) (sym a.undo) (tops (standing R) k.txn a.step (good sh R (whole sh R al).fit).held.distinct a.newest) in
    let mine : entry_used_by (Back k ∷ R) (Some k.txn) ≡ Used (record { txn = k.txn; outcome = Active; last_undo = k.last }) =
    ap₂ (λ (b : Outcome) (u : Option UndoAddr). Used (record { txn = k.txn; outcome = b; last_undo = u })) (cond-true _ _ _ a.active) (sym a.last) in
    record {
      control = h.control;
      last_txn = h.last_txn;
      last_row = h.last_row;
      current = h.current;
      count = length-set t.entries k.entry _ ∙ h.count;
      entries = written (Back k ∷ R) t.entries k.entry _ h.count o.few (sym (ap (entry_used_by (Back k ∷ R)) o.user ∙ mine))
          (λ j m ne. h.entries j m ∙ sym (told_same (Back k ∷ R) R (user_of R j) (λ u q.
          (refl, refl, ap undo_of_step (newest_without k.undo k.txn u (standing R) (λ x. ne (o.only j (q ∙ ap (λ (z : ℕ). Some z) x))) top)))));
    }

no_newest : (n t : ℕ) (ss : List Step) → n < t → Every (λ (s : Step). BegunBy n s.by) ss → newest_of ss t ≡ None
no_newest n t [] l h = refl
no_newest n t (s ∷ ss) l h = cond-false _ _ _ (later s.by h.0) ∙ no_newest n t ss l h.1
  where
    later : (w : Writer) → BegunBy n w → is_by w t ≡ false
    later (By u) b = ne_eqb u t (λ e. absurd (omega (arith, b, e, l)))
    later (At c) b = refl

begin_says : (sh : Shape) (R : List Record) (g : BeginRecord) (t : TxnTable) (lsn : ℕ) → AreAllowed sh R → Known R → BeginAllowed R g → g.entry < TXN_ENTRIES → HoldsTable R t → HoldsTable (Begin g ∷ R) (txns_after (Begin g) lsn t)
begin_says sh R g t lsn al k a few h =
    let number = a.number in
    let begun = (good sh R (whole sh R al).fit).held.begun in
    let none : last_undo R g.txn ≡ None = ap undo_of_step (no_newest (txn_count R) g.txn (standing R) (omega (arith, number)) begun) in
    let self : eqb g.txn g.txn ≡ true = eq-eqb g.txn g.txn refl in
    let mine : entry_used_by (Begin g ∷ R) (Some g.txn) ≡ Used (record { txn = g.txn; outcome = Active; last_undo = None }) =
    ap₂ (λ (b : Outcome) (u : Option UndoAddr). Used (record { txn = g.txn; outcome = b; last_undo = u })) (cond-true _ _ _ (ap (λ v. v || is_active R g.txn) self)) none in
    record {
      control = refl;
      last_txn = number;
      last_row = h.last_row;
      current = h.current;
      count = length-set t.entries g.entry _ ∙ h.count;
      entries = written (Begin g ∷ R) t.entries g.entry _ h.count few (sym (ap (entry_used_by (Begin g ∷ R)) (cond-true _ _ _ (eq-eqb g.entry g.entry refl)) ∙ mine))
          (λ j m ne. h.entries j m ∙ sym (ap (entry_used_by (Begin g ∷ R)) (cond-false _ _ _ (ne_eqb g.entry j (λ x. ne (sym x)))) ∙ told_same (Begin g ∷ R) R (user_of R j) (λ u q.
          let b = k.most u (k.entry_begun u j (k.last u j q).0) in
          (ap (λ v. v || is_active R u) (ne_eqb g.txn u (λ x. absurd (omega (arith, number, b, x)))), refl, refl))));
    }

-- the page

abbrev HasT : List Record → Page → Type 0
HasT R (pages.Txns t) = HoldsTable R t
HasT R _ = Unit {0}

change_t : (R : List Record) (r : Record) (lsn : ℕ) (p : Page) → ((t : TxnTable) → HoldsTable R t → HoldsTable (r ∷ R) (txns_after r lsn t)) → HasT R p → HasT (r ∷ R) (page_after r lsn p)
change_t R r lsn (pages.Zero x) f h = tt
change_t R r lsn (pages.Checkpoint x) f h = tt
change_t R r lsn (pages.Txns x) f h = f x h
change_t R r lsn (pages.Catalogue x) f h = tt
change_t R r lsn (pages.Space x) f h = tt
change_t R r lsn (pages.Undo x) f h = tt
change_t R r lsn (pages.First x) f h = tt
change_t R r lsn (pages.Second x) f h = tt
change_t R r lsn (pages.Third x) f h = tt
change_t R r lsn (pages.Header x) f h = tt
change_t R r lsn (pages.Rows x) f h = tt

cond_t : (b : Bool) (S : List Record) (p q : Page) → HasT S p → HasT S q → HasT S (cond b p q)
cond_t true S p q h k = h
cond_t false S p q h k = k

hold_t : (R : List Record) (r : Record) (p : Page) → ((t : TxnTable) (lsn : ℕ) → HoldsTable R t → HoldsTable (r ∷ R) (record t { lsn = lsn })) → HasT R p → HasT (r ∷ R) p
hold_t R r (pages.Zero x) f h = tt
hold_t R r (pages.Checkpoint x) f h = tt
hold_t R r (pages.Txns t) f h = let k = f t 0 h in record { control = k.control; last_txn = k.last_txn; last_row = k.last_row; current = k.current; count = k.count; entries = k.entries }
hold_t R r (pages.Catalogue x) f h = tt
hold_t R r (pages.Space x) f h = tt
hold_t R r (pages.Undo x) f h = tt
hold_t R r (pages.First x) f h = tt
hold_t R r (pages.Second x) f h = tt
hold_t R r (pages.Third x) f h = tt
hold_t R r (pages.Header x) f h = tt
hold_t R r (pages.Rows x) f h = tt

made_t : (b : Bool) (S : List Record) (q p : Page) → HasT S q → HasT S p → HasT S (or_kept (cond b (Some q) None) p)
made_t true S q p h k = h
made_t false S q p h k = k

still_step : (sh : Shape) (R : List Record) (r : Record) → ((t : TxnTable) (lsn : ℕ) → HoldsTable R t → HoldsTable (r ∷ R) (record t { lsn = lsn })) → ((t : TxnTable) → HoldsTable R t → HoldsTable (r ∷ R) (txns_after r (suc (length R)) t))
    → (HasT R (page_of sh R 1) → HasT R (start r (suc (length R)) (page_of sh R 1))) → HasT R (page_of sh R 1) → HasT (r ∷ R) (page_of sh (r ∷ R) 1)
still_step sh R r f g s h =
    cond_t (is_among (touched sh r) 1) (r ∷ R) (changed_page r (suc (length R)) (page_of sh R 1)) (page_of sh R 1)
    (change_t R r (suc (length R)) (start r (suc (length R)) (page_of sh R 1)) g (s h)) (hold_t R r (page_of sh R 1) f h)

rep : (n i : ℕ) → get_or (replicate n Unused) i Unused ≡ Unused
rep zero i = refl
rep (suc n) zero = refl
rep (suc n) (suc i) = rep n i

positive : (n : ℕ) → (n ≡ 0 → ⊥) → 1 ≤ n
positive zero h = absurd (h refl)
positive (suc n) h = omega arith

begin_start : (sh : Shape) (R : List Record) (g : BeginRecord) (p : Page) → is_shape sh ≡ true → AreAllowed sh (Begin g ∷ R) → sort_name p ≡ Some (sort_of sh R 1) → HasT R p → HasT R (or_kept (as_txns p) p)
begin_start sh R g (pages.Zero d) s h e k =
    let n : txn_count R ≡ 0 = none in
    record {
      control = sym (no_control R n);
      last_txn = sym n;
      last_row = sym (no_row sh R h.0 n);
      current = sym (elim (no_current sh R h.0 n) [
        | inl y ↦ y
        | inr c ↦ let x = called_adds R (Begin g) c h.1.called_for in absurd (let z : Still ≡ Adds x.0 = x.1 in cc)
      ]);
      count = refl;
      entries = λ i m. rep TXN_ENTRIES i ∙ sym (ap (entry_used_by R) (no_user R i n));
    }
  where
    none : txn_count R ≡ 0
    none = elim (cases_Bool (eqb (txn_count R) 0)) [
      | inl y ↦ eqb-true (txn_count R) 0 y
      | inr f ↦ (let ne : txn_count R ≡ 0 → ⊥ = eqb-false (txn_count R) 0 f in
          let l : 1 ≤ txn_count R = positive (txn_count R) ne in
          let t = (sorts_are_made sh R s h.0).begun l in
          absurd (let z : ◌≡◌ {A = Option Sort} (Some Blank) (Some Txns) = e ∙ ap (λ (x : Sort). Some x) t in let y : Blank ≡ Txns = cc in let w : Blank ≡ Txns = y in cc))
    ]
begin_start sh R g (pages.Checkpoint x) s h e k = tt
begin_start sh R g (pages.Txns x) s h e k = k
begin_start sh R g (pages.Catalogue x) s h e k = tt
begin_start sh R g (pages.Space x) s h e k = tt
begin_start sh R g (pages.Undo x) s h e k = tt
begin_start sh R g (pages.First x) s h e k = tt
begin_start sh R g (pages.Second x) s h e k = tt
begin_start sh R g (pages.Third x) s h e k = tt
begin_start sh R g (pages.Header x) s h e k = tt
begin_start sh R g (pages.Rows x) s h e k = tt

catalogue_t : (R : List Record) (p : Page) → HasT R p → HasT R (or_kept (as_catalogue p) p)
catalogue_t R (pages.Zero x) h = tt
catalogue_t R (pages.Checkpoint x) h = tt
catalogue_t R (pages.Txns x) h = h
catalogue_t R (pages.Catalogue x) h = tt
catalogue_t R (pages.Space x) h = tt
catalogue_t R (pages.Undo x) h = tt
catalogue_t R (pages.First x) h = tt
catalogue_t R (pages.Second x) h = tt
catalogue_t R (pages.Third x) h = tt
catalogue_t R (pages.Header x) h = tt
catalogue_t R (pages.Rows x) h = tt

space_t : (R : List Record) (p : Page) → HasT R p → HasT R (or_kept (as_space p) p)
space_t R (pages.Zero x) h = tt
space_t R (pages.Checkpoint x) h = tt
space_t R (pages.Txns x) h = h
space_t R (pages.Catalogue x) h = tt
space_t R (pages.Space x) h = tt
space_t R (pages.Undo x) h = tt
space_t R (pages.First x) h = tt
space_t R (pages.Second x) h = tt
space_t R (pages.Third x) h = tt
space_t R (pages.Header x) h = tt
space_t R (pages.Rows x) h = tt

new_t : (R : List Record) (t : TableRecord) (p : Page) → HasT R p → HasT R (or_kept (table_started t p) p)
new_t R t p h = elim (eqb (dba_of p) 2) as (λ b. HasT R (or_kept (cond b (as_catalogue p) (Some (new_header (dba_of p) t))) p)) [ true ↦ catalogue_t R p h | false ↦ tt ]

maps_t : (b bi c ci : Bool) (R : List Record) (q p2 p3 p1 : Page) → HasT R q → HasT R p2 → HasT R p3 → HasT R p1 → HasT R (or_kept (cond b (cond bi (Some p2) None) (cond c (cond ci (Some p3) None) (Some p1))) q)
maps_t true true c ci R q p2 p3 p1 h h2 h3 h1 = h2
maps_t true false c ci R q p2 p3 p1 h h2 h3 h1 = h
maps_t false bi true true R q p2 p3 p1 h h2 h3 h1 = h3
maps_t false bi true false R q p2 p3 p1 h h2 h3 h1 = h
maps_t false bi false ci R q p2 p3 p1 h h2 h3 h1 = h1

extend_t : (R : List Record) (e : ExtendRecord) (lsn : ℕ) (p : Page) → HasT R p → HasT R (start (Extend e) lsn p)
extend_t R e lsn p h =
    let d : ℕ = dba_of p in
    let rest : Option Page = cond (eqb d e.l2) (cond (eqb (e.index % EXTENTS_OF_L2) 0) (Some (new_second d)) None) (cond (eqb d e.l3) (cond (eqb e.index 0) (Some (new_third d)) None) (Some (new_first d lsn))) in
    elim (eqb d 3) as (λ b. HasT R (or_kept (cond b (as_space p) (cond (eqb d e.header) None rest)) p)) [
      | true ↦ space_t R p h
      | false ↦ elim (eqb d e.header) as (λ b. HasT R (or_kept (cond b None rest) p)) [ true ↦ h | false ↦ maps_t (eqb d e.l2) (eqb (e.index % EXTENTS_OF_L2) 0) (eqb d e.l3) (eqb e.index 0) R p (new_second d) (new_third d) (new_first d lsn) h tt tt tt ]
    ]

table_step : (sh : Shape) (R : List Record) (r : Record) → is_shape sh ≡ true → AreAllowed sh (r ∷ R) → IsKindAllowed sh R r → Known R → HasT R (page_of sh R 1) → HasT (r ∷ R) (page_of sh (r ∷ R) 1)
table_step sh R (Table x) s h a k p = still_step sh R (Table x) (λ t l y. still_says R (Table x) t l refl refl refl refl (λ i. refl) (λ u. (refl, refl, refl)) y) (λ t y. still_says R (Table x) t _ refl refl refl refl (λ i. refl) (λ u. (refl, refl, refl)) y) (λ y. new_t R x (page_of sh R 1) y) p
table_step sh R (Movement x) s h a k p = still_step sh R (Movement x) (λ t l y. still_says R (Movement x) t l refl refl refl refl (λ i. refl) (λ u. (refl, refl, refl)) y) (λ t y. still_says R (Movement x) t _ refl refl refl refl (λ i. refl) (λ u. (refl, refl, refl)) y) (λ y. y) p
table_step sh R (Class x) s h a k p = still_step sh R (Class x) (λ t l y. still_says R (Class x) t l refl refl refl refl (λ i. refl) (λ u. (refl, refl, refl)) y) (λ t y. still_says R (Class x) t _ refl refl refl refl (λ i. refl) (λ u. (refl, refl, refl)) y) (λ y. y) p
table_step sh R (Advance x) s h a k p = still_step sh R (Advance x) (λ t l y. still_says R (Advance x) t l refl refl refl refl (λ i. refl) (λ u. (refl, refl, refl)) y) (λ t y. still_says R (Advance x) t _ refl refl refl refl (λ i. refl) (λ u. (refl, refl, refl)) y) (λ y. y) p
table_step sh R (Lower x) s h a k p = still_step sh R (Lower x) (λ t l y. still_says R (Lower x) t l refl refl refl refl (λ i. refl) (λ u. (refl, refl, refl)) y) (λ t y. still_says R (Lower x) t _ refl refl refl refl (λ i. refl) (λ u. (refl, refl, refl)) y) (λ y. y) p
table_step sh R (Move x) s h a k p = still_step sh R (Move x) (λ t l y. still_says R (Move x) t l refl refl refl refl (λ i. refl) (λ u. (refl, refl, refl)) y) (λ t y. still_says R (Move x) t _ refl refl refl refl (λ i. refl) (λ u. (refl, refl, refl)) y) (λ y. y) p
table_step sh R (Clean x) s h a k p = still_step sh R (Clean x) (λ t l y. still_says R (Clean x) t l refl refl refl refl (λ i. refl) (λ u. (refl, refl, refl)) y) (λ t y. still_says R (Clean x) t _ refl refl refl refl (λ i. refl) (λ u. (refl, refl, refl)) y) (λ y. y) p
table_step sh R (FormatBlock x) s h a k p = still_step sh R (FormatBlock x) (λ t l y. still_says R (FormatBlock x) t l refl refl refl refl (λ i. refl) (λ u. (refl, refl, refl)) y) (λ t y. still_says R (FormatBlock x) t _ refl refl refl refl (λ i. refl) (λ u. (refl, refl, refl)) y) (λ y. made_t (eqb x.dba (dba_of (page_of sh R 1))) R (new_rows (dba_of (page_of sh R 1))) (page_of sh R 1) tt y) p
table_step sh R (Extend x) s h a k p = still_step sh R (Extend x) (λ t l y. still_says R (Extend x) t l refl refl refl refl (λ i. refl) (λ u. (refl, refl, refl)) y) (λ t y. still_says R (Extend x) t _ refl refl refl refl (λ i. refl) (λ u. (refl, refl, refl)) y) (λ y. extend_t R x (suc (length R)) (page_of sh R 1) y) p
table_step sh R (Reuse q) s h a k p = change_t R (Reuse q) (suc (length R)) (start (Reuse q) (suc (length R)) (page_of sh R 1)) (λ t y. reuse_says R q t _ y) (made_t (eqb q.block (dba_of (page_of sh R 1))) R (new_undo (dba_of (page_of sh R 1)) q.sequence) (page_of sh R 1) tt p)
table_step sh R (Begin g) s h a k p = change_t R (Begin g) (suc (length R)) (or_kept (as_txns (page_of sh R 1)) (page_of sh R 1)) (λ t y. begin_says sh R g t _ h.0 k a (taken_entry R g.entry g.control a.entry) y) (begin_start sh R g (page_of sh R 1) s h (pages_sorted sh R 1 h.0 (one_plain sh R h.0)) p)
table_step sh R (Commit c) s h a k p = change_t R (Commit c) (suc (length R)) (page_of sh R 1) (λ t y. commit_says R c t _ k a y) p
table_step sh R (Ended x) s h a k p = change_t R (Ended x) (suc (length R)) (page_of sh R 1) (λ t y. ended_says R x t _ k a y) p
table_step sh R (Back b) s h a k p = change_t R (Back b) (suc (length R)) (page_of sh R 1) (λ t y. back_says sh R b t _ h.0 k a y) p
table_step sh R (Insert w) s h a k p = change_t R (Insert w) (suc (length R)) (page_of sh R 1) (λ t y. insert_says R w t _ k a.change.active a.change.entry a.number y) p
table_step sh R (Update w) s h a k p = let c = a.change.change in change_t R (Update w) (suc (length R)) (page_of sh R 1) (λ t y. row_kind_says R (Update w) w false t _ k c.active c.entry refl refl refl refl (λ u. (refl, refl, refl)) (λ i. refl) y) p
table_step sh R (Migrate w) s h a k p = let c = (may_migrate sh R w a) in change_t R (Migrate w) (suc (length R)) (page_of sh R 1) (λ t y. row_kind_says R (Migrate w) w false t _ k c.active c.entry refl refl refl refl (λ u. (refl, refl, refl)) (λ i. refl) y) p
table_step sh R (Return w) s h a k p = let c = a.change.change in change_t R (Return w) (suc (length R)) (page_of sh R 1) (λ t y. row_kind_says R (Return w) w false t _ k c.active c.entry refl refl refl refl (λ u. (refl, refl, refl)) (λ i. refl) y) p
table_step sh R (Delete w) s h a k p = let c = (may_delete sh R w a) in change_t R (Delete w) (suc (length R)) (page_of sh R 1) (λ t y. row_kind_says R (Delete w) w true t _ k c.active c.entry refl refl refl refl (λ u. (refl, refl, refl)) (λ i. refl) y) p

table_has : (sh : Shape) (R : List Record) → is_shape sh ≡ true → AreAllowed sh R → HasT R (page_of sh R 1)
table_has sh [] s h = tt
table_has sh (r ∷ R) s h = table_step sh R r s h h.1.kind (txn_table sh R h.0) (table_has sh R s h.0)

-- looking for a transaction

find_one : (p : TableEntry → Bool) (es : List TableEntry) (e : TableEntry) (i : ℕ) → i < length es → p (get_or es i Unused) ≡ true → ((j : ℕ) → j < length es → p (get_or es j Unused) ≡ true → get_or es j Unused ≡ e) → find p es ≡ Some e
find_one p [] e i l h k = absurd (omega (arith, l))
find_one p (x ∷ es) e zero l h k = cond-true _ _ _ h ∙ ap (λ (z : TableEntry). Some z) (k 0 (omega arith) h)
find_one p (x ∷ es) e (suc i) l h k = elim (cases_Bool (p x)) [
  | inl y ↦ cond-true _ _ _ y ∙ ap (λ (z : TableEntry). Some z) (k 0 (omega arith) y)
  | inr f ↦ cond-false _ _ _ f ∙ find_one p es e i (omega (arith, l)) h (λ j m y. k (suc j) (omega (arith, m)) y)
]

named_told : (R : List Record) (u : ℕ) (o : Option ℕ) → names u (entry_used_by R o) ≡ true → entry_used_by R o ≡ entry_used_by R (Some u)
named_told R u None h = absurd (true≢false (sym h))
named_told R u (Some v) h = ap (λ (x : ℕ). entry_used_by R (Some x)) (eqb-true v u h)

finds_its : (R : List Record) (t : TxnTable) (u i : ℕ) → Known R → HoldsTable R t → entry_of R u ≡ Some i → is_forgotten R u ≡ false → find (names u) t.entries ≡ Some (entry_used_by R (Some u))
finds_its R t u i k h e f =
    let n = h.count in
    let w = k.entered u (k.entry_begun u i e) in
    let same : w.0 ≡ i = (let z : ◌≡◌ {A = Option ℕ} (Some w.0) (Some i) = sym w.1 ∙ e in cc) in
    let few : i < TXN_ENTRIES = subst (λ m. m < TXN_ENTRIES) same w.2 in
    find_one (names u) t.entries (entry_used_by R (Some u)) i (omega (arith, n, few))
    (ap (names u) (h.entries i few ∙ ap (entry_used_by R) (k.user u i e f)) ∙ eq-eqb u u refl)
    (λ j m y. let less : j < TXN_ENTRIES = omega (arith, n, m) in h.entries j less ∙ named_told R u (user_of R j) (ap (names u) (sym (h.entries j less)) ∙ y))

last_says : (R : List Record) (t : TxnTable) (u : ℕ) → Known R → HoldsTable R t → is_active R u ≡ true → last_undo_in t.entries u ≡ last_undo R u
last_says R t u k h on = let w = k.entered u (k.begun u on) in ap undo_told (finds_its R t u w.0 k h w.1 (k.kept u on))

pub tables_say : TablesSay
tables_say sh R t s h e =
    let says = subst (HasT R) e (table_has sh R s h) in
    let k = txn_table sh R h in
    record { says = says; found = λ u i x f. finds_its R t u i k says x f; last = λ u on. last_says R t u k says on }
