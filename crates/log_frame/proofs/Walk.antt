-- A walk over groups, one group further.
use Rattle.std.proofs.Common.{◌≡◌, ℕ, ◌+◌, ◌<◌, List, [], ◌∷◌, ◌++◌, length, take, drop, refl, sym, ◌∙◌, ap, subst, arith, Some, None, Result, Ok, Err, append_assoc, length-take, length-drop}
use Rattle.log_frame.specs.Types.{size_found, Walks, wrong, Walked, IsSizeFound, IsEndFound, WrongByte, FrameFault, DeviceFault, NotOpen, BadFrame, NoMemory, GROUP_HEAD_SIZE}

-- some groups were passed on the way from a gate to another
pub record Passed (bytes : List ℕ) (from at : ℕ) : Type 0 where
  pub groups : List (List ℕ)
  pub on : (rest : List (List ℕ)) (result : Result ℕ WrongByte) → Walks bytes at rest result → Walks bytes from (groups ++ rest) result

pub none_passed : (bytes : List ℕ) (from : ℕ) → Passed bytes from from
none_passed bytes from = record { groups = []; on = λ rest result walks. walks }

pub one_passed : (bytes : List ℕ) (from at size : ℕ) → at + GROUP_HEAD_SIZE + size < length bytes → size_found bytes at ≡ Ok (Some size) → Passed bytes from at → Passed bytes from (at + GROUP_HEAD_SIZE + size)
one_passed bytes from at size within found passed =
    let group = take size (drop (at + GROUP_HEAD_SIZE) bytes) in
    let long : length group ≡ size = omega (arith, length-take size (drop (at + GROUP_HEAD_SIZE) bytes), length-drop (at + GROUP_HEAD_SIZE) bytes) in
    record {
      groups = passed.groups ++ group ∷ [];
      on = λ rest result walks.
          let here : Walks bytes at (group ∷ rest) result = (
            found ∙ ap (λ (n : ℕ). Ok (Some n)) (sym long),
            ap (λ (n : ℕ). take n (drop (at + GROUP_HEAD_SIZE) bytes)) long,
            subst (λ (n : ℕ). Walks bytes (at + GROUP_HEAD_SIZE + n) rest result) (sym long) walks,
          ) in
          subst (λ (l : List (List ℕ)). Walks bytes from l result) (sym (append_assoc passed.groups (group ∷ []) rest)) (passed.on (group ∷ rest) result here);
    }

-- the walk ends at a closed gate, or at what is wrong
pub ends : (bytes : List ℕ) (from at : ℕ) → size_found bytes at ≡ Ok None → Passed bytes from at → Walked bytes from (Ok at)
ends bytes from at found passed = record { groups = passed.groups ++ []; walks = passed.on [] (Ok at) (found, refl) }

pub breaks : (bytes : List ℕ) (from at : ℕ) (byte : WrongByte) → size_found bytes at ≡ Err byte → Passed bytes from at → Walked bytes from (Err byte)
breaks bytes from at byte found passed = record { groups = passed.groups ++ []; walks = passed.on [] (Err byte) found }

pub breaks_so : (bytes : List ℕ) (from at : ℕ) (fault : FrameFault) → IsSizeFound (size_found bytes at) (Err fault) → Passed bytes from at → IsEndFound bytes from (Err fault)
breaks_so bytes from at DeviceFault is passed = tt
breaks_so bytes from at NotOpen is passed = is
breaks_so bytes from at (BadFrame offset seen) is passed = breaks bytes from at (wrong offset seen) is passed
breaks_so bytes from at NoMemory is passed = is
