-- Where the row of an update or a delete was found, as the session keeps it: with the head that it had then. The statement's work
-- leaves the head out, and an update that needs another block has to know it.
use Rattle.std.specs.Prelude.{ℕ, List, MatchOption, Option}
use Rattle.seg_words.specs.Types.{Shape}
use Rattle.redo_model.specs.Records.{Record}
use Rattle.redo_model.specs.Model.{number_or_zero}
use Rattle.redo_laws.specs.Stays.{Later, IsNotOf}
use Rattle.head_laws.specs.Heads.{WasLocated}
use Rattle.row_change.specs.declared.place.Place.{Place}
use Rattle.session_core.specs.declared.session.RowWork.{RowWork}
use Rattle.session_core.specs.declared.session.Doing.{Doing}
use Rattle.session_core.specs.declared.session.Doing.TheVariants as told
use Rattle.session_core.specs.declared.turned.Turned.{Turned}
use Rattle.session_core.specs.declared.turned.Turned.TheVariants as turned

-- row n of table o was located there
abbrev pub WasAt : Shape → List Record → Option ℕ → ℕ → ℕ → Place → Type 0
WasAt sh R own o n p = WasLocated sh R own o n p.at p.born p.undo p.start p.head

-- so the row of a work that has a place
abbrev pub KeepsPlace : Shape → List Record → Option ℕ → RowWork → Type 0
KeepsPlace sh R own w = MatchOption w.place (Unit {0}) (WasAt sh R own w.obj w.row)

abbrev pub KeepsDoing : Shape → List Record → Option ℕ → Doing → Type 0
KeepsDoing sh R own (told.OnRow w) = KeepsPlace sh R own w
KeepsDoing sh R own d = Unit {0}

abbrev pub KeepsTurned : Shape → List Record → Option ℕ → Turned → Type 0
KeepsTurned sh R own (turned.On d) = KeepsDoing sh R own d
KeepsTurned sh R own (turned.Over outcome k) = Unit {0}

-- it stays over records by which own changes nothing: those of other sessions, movements of the marks, and settlings
abbrev pub PlacesStay : Type 0
PlacesStay = (sh : Shape) (own : Option ℕ) (d : Doing) (Q R : List Record) → Later (λ e. IsNotOf e (number_or_zero own)) Q R → KeepsDoing sh Q own d → KeepsDoing sh R own d
