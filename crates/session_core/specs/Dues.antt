-- What a session is to settle: the row blocks that are owed, and those that its open transaction changed, by number, each with its
-- table.
use Rattle.std.specs.Prelude.{ℕ, Bool, cond, [], Option, Some, None}
use Rattle.std.specs.BTreeMap.{insert_entry}
use Rattle.std.specs.Ordering.{nat_cmp}
use Rattle.session_core.specs.declared.changed.Changed.{Changed}
use Rattle.session_core.specs.declared.dues.Dues.{Dues}
use Rattle.session_core.specs.Owing.{table_in, with_all, AreKept}

-- ---- one block

-- the table that is told, else the one with which the block was noted
abbrev pub table_of : Dues → Option ℕ → ℕ → Option ℕ
table_of d (Some o) b = Some o
table_of d None b = table_in d.noted b

-- a block of this table is owed, and noted
abbrev pub of_table : Dues → ℕ → ℕ → Dues
of_table d b o = record { owed = insert_entry nat_cmp d.owed b o; noted = insert_entry nat_cmp d.noted b o }

abbrev pub of_some_table : Dues → ℕ → Option ℕ → Dues
of_some_table d b None = d
of_some_table d b (Some o) = of_table d b o

abbrev pub with_block : Option ℕ → Dues → Option ℕ → Dues
with_block o d None = d
with_block o d (Some b) = of_some_table d b (table_of d o b)

-- ---- all blocks of an event

abbrev pub with_blocks : Changed → Dues → Dues
with_blocks c d = with_block c.obj (with_block c.obj (with_block c.obj d c.first) c.second) c.third

-- all that were noted are owed, and none stays noted
abbrev pub all_owed : Dues → Dues
all_owed d = record { owed = with_all d.owed d.noted; noted = [] }

-- after an event, whether the session has an open transaction or not
abbrev pub noted_after : Changed → Bool → Dues → Dues
noted_after c active d = cond active (with_blocks c d) (all_owed (with_blocks c d))

-- ---- where memory is short

-- each block that was owed or noted still is
abbrev pub LosesNone : Dues → Dues → Type 0
LosesNone old new = AreKept old.owed old.noted new.owed new.noted
