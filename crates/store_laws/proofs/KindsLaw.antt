-- Which page a block has after a lawful list.
use Rattle.std.proofs.Common.{◌≡◌, ◌⊎◌, ℕ, true, List, [], ◌∷◌, None, refl, sym, ◌∙◌, ap, subst, inl, inr}
use Rattle.std.proofs.lemmas.Bool.{true≢false}
use Rattle.seg_words.proofs.Lemmas.{get_or-replicate}
use Rattle.txn_block.specs.declared.entry.TableEntry.TheVariants.{Unused}
use Rattle.redo_record.specs.declared.record.Record.{Record}
use Rattle.redo_record.specs.declared.record.Record.TheVariants.{Reuse}
use Rattle.redo_model.specs.Undo.{current_undo}
use Rattle.redo_model.specs.Lawful.{is_whole}
use Rattle.page_model.specs.Types.{entry_used_by}
use Rattle.page_set.specs.declared.page.Page.TheVariants as pages
use Rattle.page_set.specs.Folded.{page_of}
use Rattle.page_set.specs.Says.{Says}
use Rattle.page_set.proofs.SaysLaw.{says}
use Rattle.sort_laws.specs.Sorts.{Blank, Rows, Undo, Txns}
use Rattle.sort_laws.proofs.SortsLaw.{sorts_are_made}
use Rattle.page_fit.proofs.FitLaw.{is_rows, is_undo, is_txns, is_zero, the_sort, one_plain, undo_plain, row_plain, stands_whole}
use Rattle.page_fit.proofs.Headed.{headed}
use Rattle.page_fit.proofs.SequenceLaw.{sequences_are_counts}
use Rattle.page_fit.proofs.TableLaw.{CalledFor, no_control, no_user, no_row, no_current, tables_say}
use Rattle.store_laws.specs.Kinds.{TablesStand, TablesAreNew, UndoStands, UndoIsHeld, RowsStand, RowsAreHeld}

-- ---- the table

pub tables_stand : TablesStand
tables_stand sh R s h b =
    let k = is_txns (page_of sh R 1) (the_sort sh R 1 Txns h (one_plain sh R h) ((sorts_are_made sh R s h).begun b)) in
    record { table = k.0; page = k.1; holds = (tables_say sh R k.0 s h k.1).says }

none_current : (R : List Record) → is_whole R ≡ true → (current_undo R ≡ None) ⊎ CalledFor R → current_undo R ≡ None
none_current R w (inl e) = e
none_current (Reuse q ∷ R) w (inr c) = absurd (true≢false (sym w))
none_current [] w (inr c) = absurd c
none_current (r ∷ R) w (inr c) = absurd c

pub tables_are_new : TablesAreNew
tables_are_new sh R s h n =
    let k = is_zero (page_of sh R 1) (the_sort sh R 1 Blank h.allowed (one_plain sh R h.allowed) ((sorts_are_made sh R s h.allowed).not_begun n)) in
    record {
      page = k.1 ∙ ap pages.Zero (subst (Says R 1) k.1 (says sh R 1));
      holds = record {
        control = sym (no_control R n);
        last_txn = sym n;
        last_row = sym (no_row sh R h.allowed n);
        current = sym (none_current R h.whole (no_current sh R h.allowed n));
        count = refl;
        entries = λ i lt. get_or-replicate 96 i Unused Unused lt ∙ sym (ap (entry_used_by R) (no_user R i n));
      };
    }

-- ---- undo

pub undo_is_held : UndoIsHeld
undo_is_held sh R u p h e =
    let k : Says R u (pages.Undo p) = subst (Says R u) e (says sh R u) in
    record {
      sequence = sequences_are_counts sh R u p.sequence p.parts p.lsn h (e ∙ ap (λ (d : ℕ). pages.Undo (record { dba = d; lsn = p.lsn; sequence = p.sequence; parts = p.parts })) k.0);
      parts = k.1;
    }

pub undo_stands : UndoStands
undo_stands sh R u s h i =
    let k = is_undo (page_of sh R u) (the_sort sh R u Undo h (undo_plain sh R u h i.ring.from i.ring.to) ((sorts_are_made sh R s h).used u i.used)) in
    record { undo = k.0; page = k.1; holds = undo_is_held sh R u k.0 h k.1 }

-- ---- rows

pub rows_are_held : RowsAreHeld
rows_are_held sh R b p e = (let k : Says R b (pages.Rows p) = subst (Says R b) e (says sh R b) in record { block = k.1 })

pub rows_stand : RowsStand
rows_stand sh R o b s h x =
    let plain = row_plain sh R o b s h.allowed (λ t i. stands_whole sh R t h.whole (headed sh R t h.allowed i)) x in
    let k = is_rows (page_of sh R b) (the_sort sh R b Rows h.allowed plain ((sorts_are_made sh R s h.allowed).formatted b x.formatted)) in
    record { rows = k.0; page = k.1; holds = rows_are_held sh R b k.0 k.1 }
