-- The fault of a store as one of its files: where a page is wrong, the place where it begins and the byte there.
use Rattle.std.specs.Prelude.{◌≡◌, ℕ, slice_index}
use Rattle.disk_model.specs.Types.{Files}
use Rattle.disk_model.specs.declared.disk.File.TheVariants.{Data, Log}
use Rattle.store_files.specs.declared.fault.OpenFault.{OpenFault}
use Rattle.store_files.specs.declared.fault.OpenFault.TheVariants.{DeviceFault, NotFormatted, BadFile, AlreadyFormatted, NoMemory}
use Rattle.store_core.specs.declared.fault.StoreFault.{StoreFault}
use Rattle.store_core.specs.declared.fault.StoreFault.TheVariants as faults
use Rattle.store_core.specs.declared.fault.StoreOpen.{StoreOpen}
use Rattle.store_core.specs.declared.fault.StoreOpen.TheVariants as opens
use Rattle.recovery.specs.Refused.{block_at}

-- the byte where a block begins, unless the device failed
abbrev pub IsFirstByte : Files → ℕ → OpenFault → Type 0
IsFirstByte files d DeviceFault = Unit {0}
IsFirstByte files d NotFormatted = ⊥
IsFirstByte files d (BadFile Log offset seen) = ⊥
IsFirstByte files d (BadFile Data offset seen) = (offset ≡ block_at d) × (seen ≡ slice_index files.data_bytes offset)
IsFirstByte files d AlreadyFormatted = ⊥
IsFirstByte files d NoMemory = ⊥

-- the device's, or one of the data file where a block begins, whatever is known of the disk
abbrev pub IsPageFault : ℕ → OpenFault → Type 0
IsPageFault d DeviceFault = Unit {0}
IsPageFault d NotFormatted = ⊥
IsPageFault d (BadFile Log offset seen) = ⊥
IsPageFault d (BadFile Data offset seen) = offset ≡ block_at d
IsPageFault d AlreadyFormatted = ⊥
IsPageFault d NoMemory = ⊥

-- of what is read of a log
abbrev pub IsReadFault : Files → StoreOpen → OpenFault → Type 0
IsReadFault files opens.DeviceFault e = e ≡ DeviceFault
IsReadFault files opens.NotOpen e = e ≡ NotFormatted
IsReadFault files (opens.BadLog offset seen) e = e ≡ BadFile Log offset seen
IsReadFault files (opens.BadPage d) e = IsFirstByte files d e
IsReadFault files opens.NoMemory e = e ≡ NoMemory

-- and of a store that was made of it
abbrev pub IsStoreFault : Files → StoreFault → OpenFault → Type 0
IsStoreFault files faults.DeviceFault e = e ≡ DeviceFault
IsStoreFault files (faults.BadPage d) e = IsFirstByte files d e
IsStoreFault files faults.NoMemory e = e ≡ NoMemory
