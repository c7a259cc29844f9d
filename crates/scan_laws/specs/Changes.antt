-- Which commits and moves changed or moved a row: what an update that starts again, and a place that was found earlier, are
-- told by. Oracle Database Concepts, "Multiversion Read Consistency" (a statement that finds a row changed since it began
-- starts again); that a move counts is this engine's own.
use Rattle.std.specs.Prelude.{◌≡◌, ℕ, ◌≤◌, Bool, true, false, ◌&&◌, ◌||◌, eqb, leb, ltb, List, [], ◌∷◌}
use Rattle.seg_words.specs.Types.{Writer, By, At}
use Rattle.redo_model.specs.Records.{Record}
use Rattle.redo_model.specs.Model.{Extends, Step, Effect, effect_of, TxnEffect, txn_effect, commit_count, is_by, steps, table_at}
use Rattle.redo_model.specs.Effects.{Adds, Commits}

-- one of the steps is by t on row n
abbrev pub touches : List Step → ℕ → ℕ → Bool
touches [] t n = false
touches (st ∷ ss) t n = (is_by st.by t && eqb st.row n) || touches ss t n

-- the commit of a transaction with a step on row n
abbrev pub commits_row : TxnEffect → List Step → ℕ → Bool
commits_row (Commits c) ss n = touches ss c.txn n
commits_row _ ss n = false

abbrev pub is_move : Writer → Bool
is_move (By t) = false
is_move (At c) = true

-- a move of row n
abbrev pub moves_row : Effect → ℕ → Bool
moves_row (Adds st) n = is_move st.by && eqb st.row n
moves_row _ n = false

-- a commit or a move with a number above s changed or moved row n
abbrev pub changed_above : List Record → ℕ → ℕ → Bool
changed_above [] s n = false
changed_above (r ∷ R) s n = (leb s (commit_count R) && (commits_row (txn_effect r) (steps R) n || moves_row (effect_of r) n)) || changed_above R s n

-- one with a number above s and at most e
abbrev pub changed_between : List Record → ℕ → ℕ → ℕ → Bool
changed_between [] s e n = false
changed_between (r ∷ R) s e n =
    ((leb s (commit_count R) && ltb (commit_count R) e) && (commits_row (txn_effect r) (steps R) n || moves_row (effect_of r) n)) || changed_between R s e n

pub record ChangesOf (R : List Record) : Type 0 where
  pub above : (s n : ℕ) → changed_between R s (commit_count R) n ≡ changed_above R s n
  pub earlier : (Q : List Record) (s n : ℕ) → Extends Q R → changed_between R s (commit_count Q) n ≡ changed_above Q s n
  pub parted : (s m e n : ℕ) → s ≤ m → m ≤ e → changed_between R s e n ≡ (changed_between R m e n || changed_between R s m n)
  pub unchanged : (o s e n : ℕ) → s ≤ e → changed_between R s e n ≡ false → table_at R o e n ≡ table_at R o s n

-- this is so in every list
abbrev pub ChangesTell : Type 0
ChangesTell = (R : List Record) → ChangesOf R
