-- The pages of the bitmaps, written and read part by part.
use Rattle.std.proofs.Common.{◌≡◌, ℕ, List, [], ◌++◌, drop, refl, ap, ◌∙◌, w32, w64}
use Rattle.seg_words.proofs.Lemmas.{to_be_bytes}
use Rattle.seg_words.specs.Types.{number_in, PAGE_HEAD_SIZE}
use Rattle.page_bytes.specs.Types.{IsFront, head_bytes, page_of}
use Rattle.bitmap_block.specs.Types.{CODES_OF_L1, MAP_HEAD_SIZE, codes_in, ExtentMap, Summary, spelling_of_map, spelling_of_summary, map_in, summary_in}

-- bytes were put behind those that a page begins with
abbrev pub Puts : List ℕ → ℕ → List ℕ → List ℕ → ℕ → Type 0
Puts page at bytes next end = (front : List ℕ) → IsFront page front at → IsFront next (front ++ bytes) end

pub map_written : (m : ExtentMap) (p0 p1 p2 p3 head incarnation : List ℕ) (a0 a1 a2 a3 : ℕ) → IsFront p0 [] a0 → Puts p0 a0 head p1 a1 → Puts p1 a1 incarnation p2 a2 → Puts p2 a2 m.codes p3 a3
    → head ≡ head_bytes 7 0 0 m.dba m.lsn → incarnation ≡ to_be_bytes w64 m.incarnation → p3 ≡ spelling_of_map m
unfolding spelling_of_map
map_written m p0 p1 p2 p3 head incarnation a0 a1 a2 a3 start first second third h i =
    (third (head ++ incarnation) (second head (first [] start))).bytes
    ∙ ap (λ (x : List ℕ). page_of ((x ++ incarnation) ++ m.codes)) h ∙ ap (λ (x : List ℕ). page_of ((head_bytes 7 0 0 m.dba m.lsn ++ x) ++ m.codes)) i

pub summary_written : (kind : ℕ) (s : Summary) (p0 p1 p2 head : List ℕ) (a0 a1 a2 : ℕ) → IsFront p0 [] a0 → Puts p0 a0 head p1 a1 → Puts p1 a1 s.codes p2 a2
    → head ≡ head_bytes kind 0 0 s.dba s.lsn → p2 ≡ spelling_of_summary kind s
unfolding spelling_of_summary
summary_written kind s p0 p1 p2 head a0 a1 a2 start first second h = (second head (first [] start)).bytes ∙ ap (λ (x : List ℕ). page_of (x ++ s.codes)) h

pub map_read : (bytes codes : List ℕ) (dba lsn incarnation : ℕ) → dba ≡ number_in w32 bytes 4 → lsn ≡ number_in w64 bytes 8 → incarnation ≡ number_in w64 bytes PAGE_HEAD_SIZE → codes ≡ codes_in CODES_OF_L1 (drop MAP_HEAD_SIZE bytes)
    → (let m : ExtentMap = record { dba = dba; lsn = lsn; incarnation = incarnation; codes = codes } in m ≡ map_in bytes)
unfolding map_in
map_read bytes codes dba lsn incarnation d l i c = rw (d, l, i, c) refl

pub summary_read : (n : ℕ) (bytes codes : List ℕ) (dba lsn : ℕ) → dba ≡ number_in w32 bytes 4 → lsn ≡ number_in w64 bytes 8 → codes ≡ codes_in n (drop PAGE_HEAD_SIZE bytes)
    → (let s : Summary = record { dba = dba; lsn = lsn; codes = codes } in s ≡ summary_in n bytes)
unfolding summary_in
summary_read n bytes codes dba lsn d l c = rw (d, l, c) refl
