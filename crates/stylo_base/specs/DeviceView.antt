-- What a device of the code stands for.
use Rattle.base_model.specs.Device as model
use Rattle.stylo_base.specs.declared.device.Device.{Device}

abbrev pub device_seen : Device → model.Device
device_seen d = record { width = d.width; height = d.height }
