-- Flags, by their bits.
use Rattle.std.specs.Prelude.{ℕ, ◌+◌, ◌*◌, List, [], ◌∷◌}
use Rattle.basics.specs.Bits.{bit}
use Rattle.body.specs.Fields.{Item, whole}
use Rattle.device.specs.declared.flags.Groups.{Groups}
use Rattle.device.specs.declared.flags.DeviceFlags.{DeviceFlags}
use Rattle.device.specs.declared.flags.ListOptions.{ListOptions}

-- 0 0 0 0 actuator controller panel utility
abbrev pub groups_byte : Groups → ℕ
groups_byte g = 8 * bit g.actuator + 4 * bit g.controller + 2 * bit g.panel + bit g.utility

-- 0 gateway updatable booting, and the groups
abbrev pub device_byte : DeviceFlags → ℕ
device_byte d = 64 * bit d.gateway + 32 * bit d.updatable + 16 * bit d.booting + groups_byte d.groups

-- detailed (DA) unnamed (NN) 0 0 0 0 0 0
abbrev pub options_byte : ListOptions → ℕ
options_byte o = 128 * bit o.detailed + 64 * bit o.unnamed

-- each as what a field of one byte holds
abbrev pub groups_items : Groups → List Item
groups_items g = whole 1 (groups_byte g) ∷ []

abbrev pub device_items : DeviceFlags → List Item
device_items d = whole 1 (device_byte d) ∷ []

abbrev pub options_items : ListOptions → List Item
options_items o = whole 1 (options_byte o) ∷ []
