-- The redo list, newest first: `r ∷ R` is R with the record r added. A record's place in the list from 1 is its LSN.
-- Oracle Database Concepts, "Online Redo Log": redo records describe each change. That every promise is said over the
-- list of all of them is this engine's own.
use Rattle.std.specs.Prelude.{ℕ, suc, cond, ltb, List, [], ◌∷◌, length}
use Rattle.redo_model.specs.Records.{Record}

-- the list of the first n records
abbrev pub prefix : List Record → ℕ → List Record
prefix [] n = []
prefix (r ∷ R) n = cond (ltb (length R) n) (r ∷ R) (prefix R n)

-- the LSN of the record that is added next
abbrev pub next_lsn : List Record → ℕ
next_lsn R = suc (length R)

-- a longer list begins with this one
pub data Extends (R : List Record) : List Record → Type 0 where
  same : Extends R R
  more : {Q : List Record} (r : Record) → Extends R Q → Extends R (r ∷ Q)
