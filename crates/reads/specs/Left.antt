-- What reading leaves of the service channel's own record and of the place's channel. Definitions only.
use Rattle.model.specs.declared.Channel.{Channel}
use Rattle.model.specs.declared.Service.{Service}
use Rattle.model.specs.Registers.{Place, service, digital, common, data_channel, unlisted}
use Rattle.model.specs.Reads.{service_read, digital_read}

abbrev pub service_left : Place → Service → Service
service_left (service r) v = service_read r v
service_left (digital k r) v = v
service_left (common r) v = v
service_left (data_channel r) v = v
service_left unlisted v = v

abbrev pub channel_left : Place → Channel → Channel
channel_left (service r) ch = ch
channel_left (digital k r) ch = digital_read r ch
channel_left (common r) ch = ch
channel_left (data_channel r) ch = ch
channel_left unlisted ch = ch
