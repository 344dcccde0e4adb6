mod CalendarFacts
