-- Free classes of blocks: DBMS_SPACE counts blocks by quarters of free space, and DBMS_REPAIR sets an entry of a bitmap.
-- That a block is full while its free part is below PCTFREE, and where the quarters end, is this engine's own.
use Rattle.std.specs.Prelude.{ℕ, zero, suc, ◌*◌, ◌/◌, cond, ltb, Option, Some, None}
use Rattle.seg_base.specs.declared.limit.TheConstants.{BLOCK_ROOM}
use Rattle.seg_base.specs.declared.class.Class.{Class}
use Rattle.seg_base.specs.declared.class.Class.TheVariants.{Unformatted, Full, Fs1, Fs2, Fs3, Fs4}

-- the class of so many whole quarters of free space
abbrev pub of_quarters : ℕ → Class
of_quarters zero = Fs1
of_quarters (suc zero) = Fs2
of_quarters (suc (suc zero)) = Fs3
of_quarters (suc (suc (suc n))) = Fs4

-- the class of a formatted block with so many bytes of its room free
abbrev pub class_of : ℕ → ℕ → Class
class_of free pctfree = cond (ltb (free * 100) (pctfree * BLOCK_ROOM)) Full (of_quarters (4 * free / BLOCK_ROOM))

-- the code of a class in a bitmap block
abbrev pub class_code : Class → ℕ
class_code Unformatted = 0
class_code Full = 1
class_code Fs1 = 2
class_code Fs2 = 3
class_code Fs3 = 4
class_code Fs4 = 5

abbrev pub class_from : ℕ → Option Class
class_from zero = Some Unformatted
class_from (suc zero) = Some Full
class_from (suc (suc zero)) = Some Fs1
class_from (suc (suc (suc zero))) = Some Fs2
class_from (suc (suc (suc (suc zero)))) = Some Fs3
class_from (suc (suc (suc (suc (suc zero))))) = Some Fs4
class_from (suc (suc (suc (suc (suc (suc n)))))) = None
