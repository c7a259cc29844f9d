-- The transactions that a row block names, as a Clean states them: in rising number, each once with its number. They are a
-- function of the block and of what is known of transactions, so that a page and a list that agree give the same.
use Rattle.std.specs.Prelude.{ℕ, Bool, false, cond, not, ◌&&◌, ◌||◌, eqb, ltb, List, [], ◌∷◌}
use Rattle.seg_words.specs.Types.{Slot, ListEntry, Writer, By, At, Block}

-- a number among others in rising order: the new one stays where two are the same
abbrev pub insert_number : ℕ → ℕ → List (ℕ × ℕ) → List (ℕ × ℕ)
insert_number t n [] = (t, n) ∷ []
insert_number t n (c ∷ cs) = cond (ltb t c.0) ((t, n) ∷ c ∷ cs) (cond (eqb c.0 t) ((t, n) ∷ cs) (c ∷ insert_number t n cs))

-- transactions are numbered from 1: an empty list entry names none
abbrev pub is_over : (ℕ → Bool) → ℕ → Bool
is_over ended t = not (eqb t 0) && ended t

abbrev pub with_named : (ℕ → Bool) → (ℕ → ℕ) → ℕ → List (ℕ × ℕ) → List (ℕ × ℕ)
with_named ended stated t cs = cond (is_over ended t) (insert_number t (stated t) cs) cs

abbrev pub with_writer : (ℕ → Bool) → (ℕ → ℕ) → Writer → List (ℕ × ℕ) → List (ℕ × ℕ)
with_writer ended stated (By t) cs = with_named ended stated t cs
with_writer ended stated (At c) cs = cs

abbrev pub with_slots : (ℕ → Bool) → (ℕ → ℕ) → List Slot → List (ℕ × ℕ) → List (ℕ × ℕ)
with_slots ended stated [] cs = cs
with_slots ended stated (s ∷ ss) cs = with_slots ended stated ss (with_writer ended stated s.writer cs)

abbrev pub with_entries : (ℕ → Bool) → (ℕ → ℕ) → List ListEntry → List (ℕ × ℕ) → List (ℕ × ℕ)
with_entries ended stated [] cs = cs
with_entries ended stated (e ∷ es) cs = with_entries ended stated es (with_named ended stated e.txn cs)

-- the ended transactions that slots or list entries of the block name, each with its stated number
abbrev pub ended_named : (ℕ → Bool) → (ℕ → ℕ) → Block → List (ℕ × ℕ)
ended_named ended stated b = with_entries ended stated b.entries (with_slots ended stated b.slots [])

-- a writer whose number is known: a commit's is from 1 on, and 0 stands for one that is forgotten or was taken back
abbrev pub is_known : (ℕ → ℕ) → Writer → Bool
is_known stated (By t) = ltb 0 (stated t)
is_known stated (At c) = false

-- a slot names a transaction whose number is known
abbrev pub names_known : (ℕ → ℕ) → List Slot → Bool
names_known stated [] = false
names_known stated (s ∷ ss) = is_known stated s.writer || names_known stated ss
