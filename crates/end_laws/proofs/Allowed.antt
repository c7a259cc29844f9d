-- The records that end a transaction and take its changes back are allowed.
use Rattle.std.proofs.Common.{◌≡◌, ℕ, true, List, [], ◌∷◌, Option, Some, None, refl, sym, ◌∙◌, ap, true≢false}
use Rattle.seg_words.specs.Types.{Shape}
use Rattle.redo_model.specs.Records.{Record, Table, Reuse}
use Rattle.redo_model.specs.Model.{Step, is_active, entry_of, standing, newest_of, IsCalledFor, is_whole, IsLawful}
use Rattle.redo_laws.proofs.numbers.TxnTable.{TxnTable, txn_table}
use Rattle.end_laws.specs.Ending.{entry_or, table_place, backed_with, CommitsAreAllowed, EndsAreAllowed, BacksAreAllowed}

pub called : (R : List Record) (r : Record) → is_whole R ≡ true → IsCalledFor R r
called [] r w = tt
called (Table t ∷ R) r w = absurd (true≢false (sym w))
called (Reuse q ∷ R) r w = absurd (true≢false (sym w))
called (_ ∷ R) r w = tt

-- an active transaction has an entry
pub placed_at : (sh : Shape) (R : List Record) (t : ℕ) → IsLawful sh R → is_active R t ≡ true → entry_of R t ≡ Some (table_place R t)
placed_at sh R t h on =
    let table : TxnTable R = txn_table sh R h.allowed in
    let w = table.entered t (table.begun t on) in
    w.1 ∙ ap (λ (o : Option ℕ). Some (entry_or o)) (sym w.1)

pub commits_are_allowed : CommitsAreAllowed
commits_are_allowed sh R t h m = record {
  allowed = (h.allowed, record { called_for = called R _ h.whole; kind = record { active = m.active; number = refl; entry = placed_at sh R t h m.active; whole = m.whole } });
  whole = refl;
}

pub ends_are_allowed : EndsAreAllowed
ends_are_allowed sh R t h m = record {
  allowed = (h.allowed, record { called_for = called R _ h.whole; kind = record { active = m.active; entry = placed_at sh R t h m.active; none_left = m.none_left } });
  whole = refl;
}

pub backs_are_allowed : BacksAreAllowed
backs_are_allowed sh R t h on = go (newest_of (standing R) t) refl
  where
    go : (o : Option Step) → newest_of (standing R) t ≡ o → IsLawful sh (backed_with R t o)
    go None e = h
    go (Some st) e = record {
      allowed = (
        h.allowed,
        record {
          called_for = called R _ h.whole;
          kind = record { active = on; entry = placed_at sh R t h on; step = st; newest = e; obj = refl; row = refl; undo = refl; previous = refl; parts = refl; last = refl };
        },
      );
      whole = refl;
    }
