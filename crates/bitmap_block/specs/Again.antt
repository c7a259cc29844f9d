-- A page of a bitmap that is spelled is read.
use Rattle.std.proofs.Common.{◌≡◌, ℕ, suc, min, List, [], ◌∷◌, ◌++◌, length, map, drop, refl, ap, ◌∙◌, arith, replicate, ◌-◌, w32, w64}
use Rattle.seg_words.proofs.Lemmas.{from_be_bytes-to_be_bytes_4, from_be_bytes-to_be_bytes_8}
use Rattle.seg_words.specs.Types.{number_in, BLOCK_SIZE, PAGE_HEAD_SIZE}
use Rattle.page_bytes.proofs.Fronts.{take_front}
use Rattle.bitmap_block.specs.Codes.{GREATEST_CODE, CODES_OF_L1, MAP_HEAD_SIZE, AreCodes, codes_in}
use Rattle.bitmap_block.specs.Pages.{ExtentMap, Summary, spelling_of_map, spelling_of_summary, front_of_map, front_of_summary, map_in, summary_in, IsMap, IsSummary}

map_min : (codes : List ℕ) → AreCodes codes → map (λ b. min b GREATEST_CODE) codes ≡ codes
map_min [] are = refl
map_min (c ∷ cs) are =
    let first : min c GREATEST_CODE ≡ c = omega (arith, are 0 (omega arith)) in
    let rest : map (λ b. min b GREATEST_CODE) cs ≡ cs = map_min cs (λ i lt. are (suc i) (omega (arith, lt))) in
    ap (λ x. x ∷ map (λ b. min b GREATEST_CODE) cs) first ∙ ap (λ (xs : List ℕ). c ∷ xs) rest

-- codes that other bytes follow
codes_again : (n : ℕ) (codes rest : List ℕ) → length codes ≡ n → AreCodes codes → codes_in n (codes ++ rest) ≡ codes
codes_again n codes rest count are = ap (map (λ b. min b GREATEST_CODE)) (take_front codes rest n count) ∙ map_min codes are

pub map_again : (m : ExtentMap) → IsMap m → map_in (spelling_of_map m) ≡ m
unfolding spelling_of_map map_in
map_again m fits =
    let zeros : List ℕ = replicate (BLOCK_SIZE - length (front_of_map m)) 0 in
    let e1 : number_in w32 (spelling_of_map m) 4 ≡ m.dba = from_be_bytes-to_be_bytes_4 m.dba fits.dba in
    let e2 : number_in w64 (spelling_of_map m) 8 ≡ m.lsn = from_be_bytes-to_be_bytes_8 m.lsn fits.lsn in
    let e3 : number_in w64 (spelling_of_map m) PAGE_HEAD_SIZE ≡ m.incarnation = from_be_bytes-to_be_bytes_8 m.incarnation fits.incarnation in
    let e4 : codes_in CODES_OF_L1 (drop MAP_HEAD_SIZE (spelling_of_map m)) ≡ m.codes = codes_again CODES_OF_L1 m.codes zeros fits.count fits.codes in
    rw (e1, e2, e3, e4) refl

pub summary_again : (kind n : ℕ) (s : Summary) → IsSummary n s → summary_in n (spelling_of_summary kind s) ≡ s
unfolding spelling_of_summary summary_in
summary_again kind n s fits =
    let zeros : List ℕ = replicate (BLOCK_SIZE - length (front_of_summary kind s)) 0 in
    let e1 : number_in w32 (spelling_of_summary kind s) 4 ≡ s.dba = from_be_bytes-to_be_bytes_4 s.dba fits.dba in
    let e2 : number_in w64 (spelling_of_summary kind s) 8 ≡ s.lsn = from_be_bytes-to_be_bytes_8 s.lsn fits.lsn in
    let e4 : codes_in n (drop PAGE_HEAD_SIZE (spelling_of_summary kind s)) ≡ s.codes = codes_again n s.codes zeros fits.count fits.codes in
    rw (e1, e2, e4) refl
