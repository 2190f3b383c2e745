mod KnownWindow
