-- The messages of a configuration update (TS 24.501 clauses 8.2.19 and 8.2.20).
use Rattle.mm_messages.specs.declared.configuration_update.ConfigurationUpdateCommand.{ConfigurationUpdateCommand}
use Rattle.nas_base.specs.declared.shape.Form.TheVariants.{Half, Fixed, Tlve}
use Rattle.nas_layout.specs.Codings.{guti, half}
use Rattle.nas_layout.specs.Table.{Table, element, elements, message, passed_over}
use Rattle.nas_layout.specs.declared.iei.TheConstants as iei

-- CONFIGURATION UPDATE COMMAND. Configuration update indication, 5G-GUTI; the local time zone, and the universal time with it, are
-- passed over.
unfoldable pub configuration_update_command : Table ConfigurationUpdateCommand
configuration_update_command =
    elements (
    element iei.CONFIGURATION_UPDATE_INDICATION Half half (λ m. m.indication) (λ indication.
    element iei.GUTI_5G Tlve guti (λ m. m.guti) (λ guti.
    passed_over iei.LOCAL_TIME_ZONE (Fixed 2) (
    passed_over iei.UNIVERSAL_TIME_AND_LOCAL_TIME_ZONE (Fixed 8) (
    message (record { indication = indication; guti = guti }))))))
