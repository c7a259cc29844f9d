-- Where a row stands, as the code says it, and that its blocks are the table's.
use Rattle.std.specs.Prelude.{ℕ, List}
use Rattle.seg_words.specs.Types.{Shape}
use Rattle.redo_model.specs.Records.{Record}
use Rattle.redo_model.specs.Model.{IsRowBlock}
use Rattle.change_laws.specs.Types.{Stand, Whole, Apart}
use Rattle.row_change.specs.declared.stand.Stand.{Stand as Told}
use Rattle.row_change.specs.declared.stand.Stand.TheVariants as told

abbrev pub told_stand : Told → Stand
told_stand (told.Whole p) = Whole p
told_stand (told.Apart head body) = Apart head body

abbrev pub AreAtHome : Shape → List Record → ℕ → Stand → Type 0
AreAtHome sh R o (Whole p) = IsRowBlock sh R o p.dba
AreAtHome sh R o (Apart head body) = IsRowBlock sh R o head.dba × IsRowBlock sh R o body.dba
