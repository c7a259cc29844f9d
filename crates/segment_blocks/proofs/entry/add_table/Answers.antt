use Rattle.std.proofs.Common.{◌++◌, ◌∷◌, [], length, List, ℕ, subst}
use Rattle.page_bytes.specs.Types.{IsFront}
use Rattle.segment_blocks.proofs.Forms.{table_added}
use Rattle.segment_blocks.proofs.entry.add_table.Goals as goal

pub returns-clause-bytes : goal.returns-clause-bytes
returns-clause-bytes c = λ front is.
    let name : List ℕ = c.args.name.now in
    let first : List ℕ = front ++ length name ∷ [] in
    subst (λ (x : List ℕ). IsFront c.add.new.page x c.add.result) (table_added front name c.zeros.result.now c.to_be_bytes.result c.zeros-2.result.now c.args.header c.requires.most c.zeros.ensures c.to_be_bytes.ensures c.zeros-2.ensures)
    (c.add.ensures.bytes (((first ++ name) ++ c.zeros.result.now) ++ c.to_be_bytes.result)
    (c.add-rest_at.ensures.bytes ((first ++ name) ++ c.zeros.result.now)
    (c.add-header_at.ensures.bytes (first ++ name) (c.add-zeros_at.ensures.bytes first (c.add-name_at.ensures.bytes front is)))))
