-- The row of an insert or an update has a size that rows have.
use Rattle.std.proofs.Common.{◌≡◌, ℕ, List, subst, arith}
use Rattle.redo_model.specs.Model.{IsRowSize}
use Rattle.script_text.specs.declared.statement.Statement.{Statement}
use Rattle.script_text.specs.declared.statement.Statement.TheVariants as asked
use Rattle.script_text.specs.declared.statement.Target.{Target}
use Rattle.script_text.specs.Spelled.{IsSpelled, IsText}

size_of : (text : List ℕ) → IsText text → IsRowSize text
size_of text h = let l = h.0 in record { least = omega (arith, l); most = h.1 }

pub insert_size : (st : Statement) (name label text : List ℕ) → st ≡ asked.Insert name label text → IsSpelled st → IsRowSize text
insert_size st name label text e h = let s = subst IsSpelled e h in size_of text s.2

pub update_size : (st : Statement) (name : List ℕ) (target : Target) (text : List ℕ) → st ≡ asked.Update name target text → IsSpelled st → IsRowSize text
update_size st name target text e h = let s = subst IsSpelled e h in size_of text s.2
