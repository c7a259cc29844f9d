use Rattle.std.proofs.Common.{◌≡◌, ℕ, List, [], ◌++◌, length, refl, sym, ap, ◌∙◌, arith, flat_map}
use Rattle.page_bytes.specs.Types.{head_bytes, page_of}
use Rattle.page_bytes.proofs.PiecesIn.{length-spelled}
use Rattle.segment_blocks.specs.Types.{extent_bytes}
use Rattle.segment_blocks.proofs.Forms.{header_written}
use Rattle.segment_blocks.proofs.header.write_page.Goals as goal

pub add_all-requires : goal.add_all-requires
add_all-requires c =
    let head : length c.head_bytes.result ≡ 16 = ap (λ (x : List ℕ). length x) c.head_bytes.ensures in
    omega (arith, head, length-spelled extent_bytes 4 c.args.extents.now (λ x. refl))

pub returns : goal.returns
returns c = λ h d l x f.
    header_written h c.add_all.new.page c.head_bytes.result c.args.fields.now (c.head_bytes.ensures ∙ ap (λ (n : ℕ). head_bytes 10 0 0 n c.args.lsn) (sym d) ∙ ap (λ (n : ℕ). head_bytes 10 0 0 h.dba n) (sym l)) f
    ((c.add_all.ensures.bytes (c.head_bytes.result ++ c.args.fields.now) (c.add-extents_at.ensures.bytes c.head_bytes.result (c.add-fields_at.ensures.bytes [] c.begin-start.ensures))).bytes
    ∙ ap (λ (ys : List ℕ). page_of ((c.head_bytes.result ++ c.args.fields.now) ++ flat_map extent_bytes ys)) (sym x))
