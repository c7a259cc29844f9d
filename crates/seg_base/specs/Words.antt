-- Names of the script. This engine's own.
use Rattle.std.specs.Prelude.{ℕ, Bool, ◌&&◌, ◌||◌, ◌==◌, nat_le, List, length, slice_index}
use Rattle.std.specs.List.{list_all}
use Rattle.seg_base.specs.declared.limit.TheConstants.{LONGEST_NAME}

abbrev pub is_lower : ℕ → Bool
is_lower b = nat_le 97 b && nat_le b 122

abbrev pub is_name_byte : ℕ → Bool
is_name_byte b = is_lower b || (nat_le 48 b && nat_le b 57) || (b == 95)

-- 1 to 30 bytes, a lower-case letter first, then lower-case letters, digits and `_`
abbrev pub is_name : List ℕ → Bool
is_name bytes =
    nat_le 1 (length bytes) && nat_le (length bytes) LONGEST_NAME && is_lower (slice_index bytes 0) && list_all is_name_byte bytes
