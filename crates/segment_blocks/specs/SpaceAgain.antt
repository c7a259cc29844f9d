-- A space bitmap that is spelled is read.
use Rattle.std.proofs.Common.{◌≡◌, ℕ, ◌*◌, ◌/◌, List, ◌++◌, length, slice_index, slice_set, take, drop, refl, ap, ◌∙◌, replicate, ◌-◌, w32, w64}
use Rattle.seg_words.proofs.Lemmas.{from_be_bytes-to_be_bytes_4, from_be_bytes-to_be_bytes_8, set-get_or}
use Rattle.seg_words.specs.Types.{number_in, BLOCK_SIZE}
use Rattle.page_bytes.proofs.Fronts.{take_front}
use Rattle.segment_blocks.specs.Spaces.{Space, front_of_space, spelling_of_space, bits_in, space_in, HasBits, IsSpace}

bits_again : (bits rest : List ℕ) → HasBits bits → bits_in (bits ++ rest) ≡ bits
bits_again bits rest has =
    let front : take 256 (bits ++ rest) ≡ bits = take_front bits rest 256 has.count in
    ap (λ (b : List ℕ). slice_set b 255 (slice_index b 255 / 32 * 32)) front ∙ ap (λ (n : ℕ). slice_set bits 255 n) has.spare ∙ set-get_or bits 255 0

pub space_again : (s : Space) → IsSpace s → space_in (spelling_of_space s) ≡ s
unfolding spelling_of_space space_in
space_again s fits =
    let zeros : List ℕ = replicate (BLOCK_SIZE - length (front_of_space s)) 0 in
    let e1 : number_in w32 (spelling_of_space s) 4 ≡ s.dba = from_be_bytes-to_be_bytes_4 s.dba fits.dba in
    let e2 : number_in w64 (spelling_of_space s) 8 ≡ s.lsn = from_be_bytes-to_be_bytes_8 s.lsn fits.lsn in
    let e3 : number_in w64 (spelling_of_space s) 16 ≡ s.lowerings = from_be_bytes-to_be_bytes_8 s.lowerings fits.lowerings in
    let e4 : bits_in (drop 24 (spelling_of_space s)) ≡ s.bits = bits_again s.bits zeros fits.bits in
    rw (e1, e2, e3, e4) refl
