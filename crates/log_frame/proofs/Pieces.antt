-- What was read of a file, in pieces.
use Rattle.std.proofs.Common.{◌≡◌, ◌⊎◌, inl, inr, ℕ, ◌+◌, ◌-◌, ◌<◌, ◌≤◌, min, Bool, true, false, List, [], ◌∷◌, ◌++◌, length, take, drop, replicate, refl, sym, ◌∙◌, ap, subst, arith, Some, None, Option, Result, Ok, Err, IfSome, ◌^◌, take-take, take_all, drop-drop, length-take, length-drop}
use Rattle.seg_words.proofs.Lemmas.{cases_lt, take_min, drop_all}
use Rattle.std.proofs.lemmas.List.{drop-take}
use Rattle.log_frame.specs.Types.{size_found, wrong, IsSizeFound, AnswersInMemory, Reading, window, payload_read, Covers, IsReached, IsFront, Passes, IsAdvance, FrameFault, DeviceFault, NotOpen, BadFrame, NoMemory, GROUP_HEAD_SIZE}
use Rattle.log_frame.proofs.Spelled.{open_inside}

-- a part of what was read is that part of the file
part_read : (file : List ℕ) (r : Reading) (k n : ℕ) → Covers file r → r.start ≤ k → k - r.start + n ≤ length r.read → take n (drop (k - r.start) r.read) ≡ take n (drop k file)
part_read file r k n covers le within =
    let m = k - r.start in
    ap (λ (l : List ℕ). take n (drop m l)) covers.stands
    ∙ sym (drop-take m n (take (length r.read) (drop r.start file)))
    ∙ ap (drop m) (take-take (m + n) (length r.read) (drop r.start file) within)
    ∙ drop-take m n (drop r.start file)
    ∙ ap (take n) (drop-drop m r.start file ∙ ap (λ (i : ℕ). drop i file) (omega arith))

-- the first bytes of the window
pub front_read : (file : List ℕ) (r : Reading) (count : ℕ) → IsReached file GROUP_HEAD_SIZE r → count ≡ min GROUP_HEAD_SIZE (length (window r)) → (count ≡ min GROUP_HEAD_SIZE (length file - r.next)) × (take count (window r) ≡ take count (drop r.next file))
front_read file r count reached is =
    let long = length-drop (r.next - r.start) r.read in
    let whole : length r.read ≤ length file - r.start = omega (arith, ap length reached.covers.stands, length-take (length r.read) (drop r.start file), length-drop r.start file) in
    let same : count ≡ min GROUP_HEAD_SIZE (length file - r.next) = omega (arith, reached.there, reached.covers.inside) in
    (same, fits (cases_lt (length r.read) (r.next - r.start + count)))
  where
    fits : ((length r.read < r.next - r.start + count) ⊎ (r.next - r.start + count ≤ length r.read)) → take count (window r) ≡ take count (drop r.next file)
    fits (inl over) =
        let long = length-drop (r.next - r.start) r.read in
        let none : count ≡ 0 = omega (arith, is, long, over) in
        ap (λ (n : ℕ). take n (window r)) none ∙ ap (λ (n : ℕ). take n (drop r.next file)) (sym none)
    fits (inr within) = part_read file r r.next count reached.covers reached.covers.inside within

pub front_copied : (file : List ℕ) (r : Reading) (ahead copied : List ℕ) (count : ℕ) → IsReached file GROUP_HEAD_SIZE r → ahead ≡ window r → count ≡ min (length ahead) GROUP_HEAD_SIZE → copied ≡ take count ahead → IsFront file r.next (copied ++ drop count (replicate GROUP_HEAD_SIZE 0))
front_copied file r ahead copied count reached is counted same =
    let found = front_read file r count reached (omega (arith, counted, ap length is)) in
    ap (λ (l : List ℕ). l ++ drop count (replicate GROUP_HEAD_SIZE 0)) (same ∙ ap (take count) is ∙ found.1) ∙ ap (λ (n : ℕ). take n (drop r.next file) ++ drop n (replicate GROUP_HEAD_SIZE 0)) found.0

pub one_passed_on : (file : List ℕ) (old new : Reading) (size : ℕ) → IsReached file (GROUP_HEAD_SIZE + size) old → size_found file old.next ≡ Ok (Some size) → new.len ≡ old.len → new.start ≡ old.start → new.read ≡ old.read → new.next ≡ old.next + GROUP_HEAD_SIZE + size → new.size ≡ size → Passes file old.next new
one_passed_on file old new size reached found len start read next sized =
    let inside = (open_inside file old.next size found).1 in
    let long = length-drop (old.next - old.start) old.read in
    let there : old.next + GROUP_HEAD_SIZE - old.start + size ≤ length old.read = omega (arith, reached.there, inside, long, reached.covers.inside) in
    record {
      covers = record {
        len = len ∙ reached.covers.len;
        inside = omega (arith, start, next, reached.covers.inside);
        stands = read ∙ reached.covers.stands ∙ ap (λ (l : List ℕ). take (length l) (drop old.start file)) (sym read) ∙ ap (λ (n : ℕ). take (length new.read) (drop n file)) (sym start);
      };
      found = found ∙ ap (λ (n : ℕ). Ok (Some n)) (sym sized);
      payload = ap (λ (n : ℕ). take n (drop (new.next - n - new.start) new.read)) sized ∙ ap (λ (l : List ℕ). take size (drop (new.next - size - new.start) l)) read ∙ ap (λ (n : ℕ). take size (drop n old.read)) (omega (arith, next, start))
          ∙ part_read file old (old.next + GROUP_HEAD_SIZE) size reached.covers (omega (arith, reached.covers.inside)) there ∙ ap (λ (n : ℕ). take n (drop (old.next + GROUP_HEAD_SIZE) file)) (sym sized);
      next = next ∙ ap (λ (n : ℕ). old.next + GROUP_HEAD_SIZE + n) (sym sized);
    }

-- what stops it
pub reach_stops : {A : Type 0} (file : List ℕ) (gate : ℕ) (r : Reading) (fault : FrameFault) (P : A → Type 0) → AnswersInMemory (Err fault) P → IsAdvance file gate r (Err fault)
reach_stops file gate r DeviceFault P is = tt
reach_stops file gate r NotOpen P is = is
reach_stops file gate r (BadFrame offset seen) P is = absurd is
reach_stops file gate r NoMemory P is = tt

pub size_stops : (file : List ℕ) (gate here : ℕ) (r : Reading) (fault : FrameFault) → here ≡ gate → IsSizeFound (size_found file here) (Err fault) → IsAdvance file gate r (Err fault)
size_stops file gate here r DeviceFault same is = tt
size_stops file gate here r NotOpen same is = is
size_stops file gate here r (BadFrame offset seen) same is = ap (size_found file) (sym same) ∙ is
size_stops file gate here r NoMemory same is = absurd is

pub size_is : (file : List ℕ) (gate here : ℕ) (found o : Option ℕ) → here ≡ gate → found ≡ o → IsSizeFound (size_found file here) (Ok found) → size_found file gate ≡ Ok o
size_is file gate here found o at same is = ap (size_found file) (sym at) ∙ is ∙ ap (λ (x : Option ℕ). Ok x) same

pub shut_here : (file : List ℕ) (gate here : ℕ) (found : Option ℕ) → here ≡ gate → found ≡ None → IsSizeFound (size_found file here) (Ok found) → (size_found file gate ≡ Ok None) × (here ≡ gate)
shut_here file gate here found at same is = (size_is file gate here found None at same is, at)

-- the group at the gate, once it was read
pub pass_on : (old file : List ℕ) (gate here : ℕ) (new : Reading) → file ≡ old → here ≡ gate → Passes file here new → Passes old gate new
pass_on old file gate here new same at passes = subst (λ (l : List ℕ). Passes l gate new) same (subst (λ (n : ℕ). Passes file n new) at passes)

pub still_covers : (old file : List ℕ) (r : Reading) → file ≡ old → Covers old r → Covers file r
still_covers old file r same covers = subst (λ (l : List ℕ). Covers l r) (sym same) covers

pub room : (gate : ℕ) (found : Option ℕ) (size : ℕ) → found ≡ Some size → IfSome found (λ n. gate + GROUP_HEAD_SIZE + n < 2 ^ 64) → gate + GROUP_HEAD_SIZE + size < 2 ^ 64
room gate found size is within = subst (λ (o : Option ℕ). IfSome o (λ n. gate + GROUP_HEAD_SIZE + n < 2 ^ 64)) is within
