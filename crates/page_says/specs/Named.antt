-- What the page of the catalogue says: the name and the header of each table, in order of number.
use Rattle.std.specs.Prelude.{◌≡◌, ℕ, suc, ◌<◌, ◌≤◌, true, cond, eqb, List, [], ◌∷◌, length, slice_index_or, Some, None}
use Rattle.seg_words.specs.Types.{Shape, is_shape, CATALOGUE_BLOCK, MOST_TABLES}
use Rattle.segment_blocks.specs.Types as blocks
use Rattle.segment_blocks.specs.declared.entry.NamedTable.{NamedTable}
use Rattle.segment_blocks.specs.Types.{Tables, no_table}
use Rattle.redo_model.specs.Records.{Record, Table}
use Rattle.redo_model.specs.Model.{IsTable, table_count, table_named, extents_of, header_of, AreAllowed, is_whole}
use Rattle.page_set.specs.declared.page.Page.{Page}
use Rattle.page_set.specs.declared.page.Page.TheVariants.{Zero, Catalogue}
use Rattle.page_set.specs.Folded.{page_of}
use Rattle.page_fit.specs.Headers.{stated_header}

abbrev pub name_after : Record → ℕ → List ℕ → List ℕ
name_after (Table t) o was = cond (eqb t.obj o) t.name was
name_after _ o was = was

-- the name that table o's Table states
abbrev pub stated_name : List Record → ℕ → List ℕ
stated_name [] o = []
stated_name (r ∷ R) o = name_after r o (stated_name R o)

-- table o, as its Table states it
abbrev pub stated_table : List Record → ℕ → NamedTable
stated_table R o = record { name = stated_name R o; header = stated_header R o }

-- Entry i is table i + 1, and there are no more entries than tables. So the page finds by a name the table that has it, and
-- by a table's number its header: the header that the model names, but for a table that waits for its first extent.
pub record CatalogueSays (sh : Shape) (R : List Record) (c : Tables) : Type 0 where
  pub some : 1 ≤ table_count R
  pub count : length c.entries ≡ MOST_TABLES
  pub table : (i : ℕ) → i < table_count R → slice_index_or c.entries i no_table ≡ record { table = Some (stated_table R (suc i)) }
  pub rest : (i : ℕ) → table_count R ≤ i → slice_index_or c.entries i no_table ≡ no_table
  pub tables : blocks.table_count c.entries ≡ table_count R
  pub named : (name : List ℕ) → blocks.table_named c.entries name ≡ table_named R name
  pub names : (o : ℕ) → IsTable R o → table_named R (stated_name R o) ≡ Some o
  pub header : (o : ℕ) → IsTable R o → blocks.header_of c.entries o ≡ Some (stated_header R o)
  pub no_header : (o : ℕ) → (IsTable R o → ⊥) → blocks.header_of c.entries o ≡ None
  pub place : (o : ℕ) → is_whole R ≡ true → IsTable R o → blocks.header_of c.entries o ≡ Some (header_of sh (extents_of R o))

-- the page is zeros before the first Table, and the catalogue's from then on
abbrev pub SaysCatalogue : Shape → List Record → Page → Type 0
SaysCatalogue sh R (Zero d) = table_count R ≡ 0
SaysCatalogue sh R (Catalogue c) = CatalogueSays sh R c
SaysCatalogue sh R _ = ⊥

abbrev pub CataloguesSay : Type 0
CataloguesSay = (sh : Shape) (R : List Record) → is_shape sh ≡ true → AreAllowed sh R → SaysCatalogue sh R (page_of sh R CATALOGUE_BLOCK)
