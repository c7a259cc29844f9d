-- A small store with two tables, newest record first, and what its catalogue says. The extents begin at blocks 39 and 47.
use Rattle.std.specs.Prelude.{◌≡◌, List, [], ◌∷◌, replicate, Some, None}
use Rattle.segment_blocks.specs.declared.entry.CatalogueEntry.{CatalogueEntry}
use Rattle.segment_blocks.specs.Types.{no_table, table_count, table_named, header_of}
use Rattle.redo_model.specs.Records.{Record, Table, Extend}
use Rattle.redo_model.specs.Model as model
use Rattle.redo_model.specs.Model.{IsLawful}
use Rattle.redo_model.specs.Worked.{small, table_t, extend_by}
use Rattle.page_set.specs.declared.page.Page.TheVariants.{Zero, Catalogue}
use Rattle.page_set.specs.Folded.{page_of}

-- the table "t" with its first extent, then "u"
abbrev pub two : List Record
two =
    Extend (record { obj = 2; header = 50; index = 0; extent = 1; l2 = 48; l3 = 49 })
    ∷ Table (record { obj = 2; header = 50; pctfree = 10; name = 117 ∷ [] })
    ∷ extend_by 0
    ∷ table_t 10
    ∷ []

abbrev pub two_entries : List CatalogueEntry
two_entries = record { table = Some (record { name = 116 ∷ []; header = 42 }) } ∷ record { table = Some (record { name = 117 ∷ []; header = 50 }) } ∷ replicate 30 no_table

pub record TwoRight : Type 0 where
  pub lawful : IsLawful small two
  pub before : page_of small [] 2 ≡ Zero 2
  pub page : page_of small two 2 ≡ Catalogue (record { dba = 2; lsn = 3; entries = two_entries })
  pub count : table_count two_entries ≡ 2
  pub count_is : model.table_count two ≡ 2
  pub first : table_named two_entries (116 ∷ []) ≡ Some 1
  pub second : table_named two_entries (117 ∷ []) ≡ Some 2
  pub second_is : model.table_named two (117 ∷ []) ≡ Some 2
  pub no_name : table_named two_entries (118 ∷ []) ≡ None
  pub header : header_of two_entries 2 ≡ Some 50
  pub header_is : model.header_of small (model.extents_of two 2) ≡ 50
  pub no_header : header_of two_entries 3 ≡ None
