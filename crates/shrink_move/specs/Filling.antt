-- Where the slots of a row that is moved stand.
use Rattle.std.specs.Prelude.{List}
use Rattle.seg_words.specs.Types.{Shape}
use Rattle.redo_model.specs.Records.{Record}
use Rattle.change_laws.specs.Types.{Stand, Whole, Apart}
use Rattle.shrink_move.specs.Drafting.{HasRows}

-- each in a block that holds rows of a table
abbrev pub AreAtHome : Shape → List Record → Stand → Type 0
AreAtHome sh R (Whole p) = HasRows sh R p.dba
AreAtHome sh R (Apart head body) = HasRows sh R head.dba × HasRows sh R body.dba
