-- Descriptions of devices: their fields, and what these hold.
use Rattle.std.specs.Prelude.{List, [], ◌∷◌, ◌++◌}
use Rattle.body.specs.Fields.{Field, word, number, text, Item, whole, letters}
use Rattle.device.specs.Flags.{device_byte}
use Rattle.device.specs.declared.description.Found.{Found}
use Rattle.device.specs.declared.description.Info.{Info}
use Rattle.device.specs.declared.description.Names.{Names}
use Rattle.device.specs.declared.description.Platform.{Platform}
use Rattle.device.specs.declared.description.Product.{Product}
use Rattle.device.specs.declared.description.Revision.{Revision}

-- user id, counter
abbrev pub revision_fields : List Field
revision_fields = number 4 ∷ number 2 ∷ []

-- name, manufacturer, model, unique id
abbrev pub names_fields : List Field
names_fields = text ∷ text ∷ text ∷ text ∷ []

-- class, processor, operating system, flags of the device
abbrev pub platform_fields : List Field
platform_fields = number 1 ∷ number 1 ∷ number 1 ∷ word 1 7 1 ∷ []

-- profile, version, control channels, feedback channels
abbrev pub product_fields : List Field
product_fields = number 2 ∷ number 2 ∷ number 4 ∷ number 4 ∷ []

-- group, unique id, event, flags of the device, revision
abbrev pub found_fields : List Field
found_fields = number 1 ∷ text ∷ number 1 ∷ word 1 7 1 ∷ revision_fields

-- group, names, platform, product, revision
abbrev pub info_fields : List Field
info_fields = number 1 ∷ (names_fields ++ (platform_fields ++ (product_fields ++ revision_fields)))

abbrev pub revision_items : Revision → List Item
revision_items r = whole 4 r.user_id ∷ whole 2 r.counter ∷ []

abbrev pub names_items : Names → List Item
names_items n =
    letters n.name.bytes.now ∷ letters n.manufacturer.bytes.now ∷ letters n.model.bytes.now ∷ letters n.unique_id.bytes.now ∷ []

abbrev pub platform_items : Platform → List Item
platform_items p = whole 1 p.class ∷ whole 1 p.processor ∷ whole 1 p.system ∷ whole 1 (device_byte p.flags) ∷ []

abbrev pub product_items : Product → List Item
product_items p =
    whole 2 p.profile ∷ whole 2 p.version ∷ whole 4 p.control_channels ∷ whole 4 p.feedback_channels ∷ []

abbrev pub found_items : Found → List Item
found_items f =
    whole 1 f.group ∷ letters f.unique_id.bytes.now ∷ whole 1 f.event ∷ whole 1 (device_byte f.flags) ∷ revision_items f.revision

abbrev pub info_items : Info → List Item
info_items i =
    whole 1 i.group ∷ (names_items i.names ++ (platform_items i.platform ++ (product_items i.product ++ revision_items i.revision)))
