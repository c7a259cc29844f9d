-- What an update puts where, as the code says it.
use Rattle.std.specs.Prelude.{ℕ, List}
use Rattle.seg_words.specs.Types.{Rowid}
use Rattle.redo_model.specs.Model.{Content}
use Rattle.change_laws.specs.Types.{Stand, Whole, Apart}
use Rattle.row_change.specs.declared.looking.Front.{Front}

-- the content of an image with other bytes
abbrev pub again : Front → List ℕ → Content
again f bytes = record { kind = f.kind; row = f.row; link = f.link; bytes = bytes }

-- where a row stood first, which keeps its head
abbrev pub first_of : Stand → Rowid
first_of (Whole p) = p
first_of (Apart head body) = head
