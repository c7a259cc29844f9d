-- Marks, tables and formatted blocks.
use Rattle.redo_laws.proofs.space.ApartLaw.{is_listed}
use Rattle.redo_laws.proofs.space.LowMark.{low}
use Rattle.redo_laws.proofs.space.Places.{segments, a_table}
use Rattle.redo_laws.proofs.spread.SpreadLaw.{present_block}
use Rattle.redo_model.specs.Model.{data_blocks}
use Rattle.space_laws.specs.Marks.{MarksAreInOrder, FormattedAreUnderMark, TablesAreFew}

pub marks_are_in_order : MarksAreInOrder
marks_are_in_order sh R o h one most = let l = low sh R o h one most in record { order = l.order; within = l.within }

pub formatted_are_under_mark : FormattedAreUnderMark
formatted_are_under_mark sh R o b h t c f = let s = segments sh R h in present_block sh R o b s (a_table sh R o s t, is_listed (data_blocks sh R o) b c, f)

pub tables_are_few : TablesAreFew
tables_are_few sh R h = (segments sh R h).tables
