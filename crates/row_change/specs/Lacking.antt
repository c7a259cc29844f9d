-- Whom the list entries of a block name that has none for a transaction.
use Rattle.std.specs.Prelude.{ℕ, List, map, Option, Some, None}
use Rattle.seg_words.specs.Types.{ListEntry, entry_for}
use Rattle.redo_model.specs.Records.{Record}
use Rattle.txn_block.specs.Types.{TxnTable}
use Rattle.version_laws.specs.Types.{ended_by}
use Rattle.change_laws.specs.Types.{entry_by, txns_of}
use Rattle.page_set.specs.declared.page.Page.{Page}
use Rattle.page_set.specs.declared.page.Page.TheVariants.{Rows}

abbrev pub lack_by : Option ℕ → List ℕ → Option (List ℕ)
lack_by (Some entry) names = None
lack_by None names = Some names

-- by the page
abbrev pub lack_in : TxnTable → ℕ → Page → Option (Option (List ℕ))
lack_in q t (Rows rows) = Some (lack_by (entry_for (ended_by q) rows.block t) (map (λ (e : ListEntry). e.txn) rows.block.entries))
lack_in q t _ = None

-- by the list
abbrev pub lack_of : List Record → Option ℕ → ℕ → Option (List ℕ)
lack_of R own b = lack_by (entry_by R own b) (txns_of R b)

-- of the block that has none, where there is one
abbrev pub names_at : List Record → Option ℕ → Option (List ℕ)
names_at R None = None
names_at R (Some b) = Some (txns_of R b)
