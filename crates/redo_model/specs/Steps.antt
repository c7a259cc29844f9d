-- The row records and moves of a list, those that stand, and whose is the newest of them. A rollback takes a
-- transaction's changes back one by one (Oracle Database Concepts, "Rollback of Transactions"); the undo address by which
-- a Back names the record that it takes back is this engine's own.
use Rattle.std.specs.Prelude.{◌≡◌, ℕ, Bool, true, false, cond, not, ◌&&◌, ◌||◌, eqb, List, [], ◌∷◌, Option, Some, None, filter}
use Rattle.seg_words.specs.Types.{Writer, By, At, UndoAddr}
use Rattle.redo_model.specs.Records.{Record}
use Rattle.redo_model.specs.Effects.{Step, Effect, Adds, TakesBack, effect_of}

abbrev pub is_addr : UndoAddr → UndoAddr → Bool
is_addr a b = eqb a.block b.block && (eqb a.seq b.seq && eqb a.nth b.nth)

abbrev pub is_by : Writer → ℕ → Bool
is_by (By u) t = eqb u t
is_by (At c) t = false

abbrev pub all_steps : Effect → List Step → List Step
all_steps (Adds st) ss = st ∷ ss
all_steps _ ss = ss

-- all row records and moves, newest first
abbrev pub steps : List Record → List Step
steps [] = []
steps (r ∷ R) = all_steps (effect_of r) (steps R)

-- the steps that aren't of the record with this undo address
abbrev pub without_step : UndoAddr → List Step → List Step
without_step a ss = filter (λ (st : Step). not (is_addr st.undo a)) ss

abbrev pub standing_steps : Effect → List Step → List Step
standing_steps (Adds st) ss = st ∷ ss
standing_steps (TakesBack k) ss = without_step k.undo ss
standing_steps _ ss = ss

-- the steps that stand: without those whose undo address a later Back states
abbrev pub standing : List Record → List Step
standing [] = []
standing (r ∷ R) = standing_steps (effect_of r) (standing R)

-- the newest of the steps of a transaction
abbrev pub newest_of : List Step → ℕ → Option Step
newest_of [] t = None
newest_of (st ∷ ss) t = cond (is_by st.by t) (Some st) (newest_of ss t)

-- the newest of the steps on a row
abbrev pub newest_on : List Step → ℕ → Option Step
newest_on [] n = None
newest_on (st ∷ ss) n = cond (eqb st.row n) (Some st) (newest_on ss n)

abbrev pub undo_of_step : Option Step → Option UndoAddr
undo_of_step None = None
undo_of_step (Some st) = Some st.undo

-- the undo address of a transaction's newest record that isn't taken back
abbrev pub last_undo : List Record → ℕ → Option UndoAddr
last_undo R t = undo_of_step (newest_of (standing R) t)

abbrev pub backed_after : Effect → ℕ → Bool → Bool
backed_after (TakesBack k) t was = eqb k.txn t || was
backed_after _ t was = was

-- something of the transaction is taken back
abbrev pub is_backed : List Record → ℕ → Bool
is_backed [] t = false
is_backed (r ∷ R) t = backed_after (effect_of r) t (is_backed R t)

abbrev pub taken_after : Effect → UndoAddr → Bool → Bool
taken_after (TakesBack k) a was = is_addr k.undo a || was
taken_after _ a was = was

-- the record with this undo address is taken back
abbrev pub is_taken_back : List Record → UndoAddr → Bool
is_taken_back [] a = false
is_taken_back (r ∷ R) a = taken_after (effect_of r) a (is_taken_back R a)

abbrev pub IsTakenBack : List Record → UndoAddr → Type 0
IsTakenBack R a = is_taken_back R a ≡ true
