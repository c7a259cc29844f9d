-- A header that is spelled is read.
use Rattle.std.proofs.Common.{◌≡◌, ℕ, ◌<◌, ◌≤◌, ◌^◌, min, Bool, true, false, List, ◌++◌, length, refl, ap, ◌∙◌, arith, replicate, ◌-◌, w16, w32, w64, flat_map}
use Rattle.seg_words.proofs.Lemmas.{from_be_bytes-to_be_bytes_2, from_be_bytes-to_be_bytes_4, from_be_bytes-to_be_bytes_8}
use Rattle.seg_words.specs.Types.{number_in, BLOCK_SIZE, MOST_PCTFREE, MOST_TABLES, MOST_EXTENTS}
use Rattle.page_bytes.specs.Types.{pieces_in}
use Rattle.page_bytes.proofs.PiecesIn.{pieces_again}
use Rattle.segment_blocks.specs.Headers.{Header, extent_bytes, extent_in, front_of_header, spelling_of_header, is_on, flag, obj_in, header_in, header_with, IsHeader}

pub extent_again : (x : ℕ) → x < 2 ^ 32 → extent_in (extent_bytes x) ≡ x
extent_again x lt = from_be_bytes-to_be_bytes_4 x lt

flag_again : (b : Bool) → is_on (flag b) ≡ b
flag_again false = refl
flag_again true = refl

obj_again : (n : ℕ) → 1 ≤ n → n ≤ MOST_TABLES → obj_in n ≡ n
obj_again n least most = omega arith

pub header_again : (h : Header) → IsHeader h → header_in (spelling_of_header h) ≡ h
unfolding spelling_of_header header_in
header_again h fits =
    let zeros : List ℕ = replicate (BLOCK_SIZE - length (front_of_header h)) 0 in
    let e1 : number_in w32 (spelling_of_header h) 4 ≡ h.dba = from_be_bytes-to_be_bytes_4 h.dba fits.dba in
    let e2 : number_in w64 (spelling_of_header h) 8 ≡ h.lsn = from_be_bytes-to_be_bytes_8 h.lsn fits.lsn in
    let e3 : obj_in h.obj ≡ h.obj = obj_again h.obj fits.least_obj fits.most_obj in
    let e4 : min h.pctfree MOST_PCTFREE ≡ h.pctfree = omega (arith, fits.pctfree) in
    let e5 : is_on (flag h.movement) ≡ h.movement = flag_again h.movement in
    let e6 : number_in w32 (spelling_of_header h) 20 ≡ h.low = from_be_bytes-to_be_bytes_4 h.low fits.low in
    let e7 : number_in w32 (spelling_of_header h) 24 ≡ h.high = from_be_bytes-to_be_bytes_4 h.high fits.high in
    let e8 : number_in w16 (spelling_of_header h) 28 ≡ length h.extents = from_be_bytes-to_be_bytes_2 (length h.extents) (omega (arith, fits.count)) in
    let e9 : min (length h.extents) MOST_EXTENTS ≡ length h.extents = omega (arith, fits.count) in
    let e10 : pieces_in extent_in 4 (length h.extents) (flat_map extent_bytes h.extents ++ zeros) ≡ h.extents
    = pieces_again extent_bytes extent_in (λ x. x < 2 ^ 32) 4 h.extents zeros (λ x. refl) extent_again fits.extents in
    ap (λ (n : ℕ). header_with (min n MOST_EXTENTS) (spelling_of_header h)) e8
    ∙ ap (λ (n : ℕ). header_with n (spelling_of_header h)) e9
    ∙ rw (e1, e2, e3, e4, e5, e6, e7, e10) refl
